use Rattle.std.proofs.Common.{◌≡◌, ◌+◌, ap, sym, ◌∙◌, None, is_some, if◌then◌else◌, arith, rules}
use Rattle.std.proofs.lemmas.List.{get_or_default}
use Rattle.bx_base.specs.Bookings.{row_at}
use Rattle.bx_day_openings.proofs.openings.over_from.Goals as goal

pub returns-in-Some : goal.returns-in-Some
returns-in-Some c =
    let items = c.args.plan.now.assigned.items in
    let end = (row_at c.args.plan.now.bookings c.args.index).end in
    let same = get_or_default items c.args.index c.index.result.now None (search rules steps 1000000) in
    let taken = ap is_some (sym same ∙ sym c.index.ensures ∙ c.in-Some.is) in
    let value : c.end.result ≡ end = c.end.ensures.value ∙ ap (λ row. row.end) c.nth.ensures.value in
    record {
      limit = (omega arith, omega (arith, c.end.ensures.booking.in_day, c.end.ensures.value));
      over = ap (λ n. n + 38) value ∙ sym (ap (λ b. if b then end + 38 else 1) taken);
    }

pub returns-in-None : goal.returns-in-None
returns-in-None c =
    let items = c.args.plan.now.assigned.items in
    let end = (row_at c.args.plan.now.bookings c.args.index).end in
    let same = get_or_default items c.args.index c.index.result.now None (search rules steps 1000000) in
    let left = ap is_some (sym same ∙ sym c.index.ensures ∙ c.in-None.is) in
    record { limit = (omega arith, omega arith); over = sym (ap (λ b. if b then end + 38 else 1) left) }
