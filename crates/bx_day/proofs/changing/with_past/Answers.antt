use Rattle.std.proofs.Common.{length, ap, ◌∙◌, arith}
use Rattle.bx_day.proofs.OpeningDay.{opening_size}
use Rattle.bx_day.proofs.changing.with_past.Goals as goal

pub put_past-requires : goal.put_past-requires
put_past-requires c =
    let plan = c.args.plan.now in
    let size = ap length (c.deref_mut.ensures.value ∙ c.in_ok-entries.ensures) ∙ opening_size 1 plan.bookings plan.assigned.items in
    omega (arith, c.requires, size)
