use Rattle.std.proofs.Common.{◌<◌, ◌∙◌, arith, None, length}
use Rattle.std.proofs.lemmas.List.{get_or_default}
use Rattle.bx_day.proofs.OpeningDay.{added, all_added}
use Rattle.bx_day.proofs.opening.entries.Goals as goal

pub loop-i-preserved : goal.loop-i-preserved
loop-i-preserved c =
    let plan = c.args.plan.now in
    let lt : c.loop-i.i < length plan.bookings = omega (arith, c.loop-i-test.true, c.len-i-end.ensures.count) in
    let short : c.loop-i.i < length plan.assigned.items = omega (arith, lt, plan.one_each, plan.assigned.ok) in
    let given = c.index-assigned.ensures ∙ get_or_default plan.assigned.items c.loop-i.i c.index-assigned.result.now None short in
    added plan.bookings plan.assigned.items c.loop-i.i c.loop-i.entries.items c.add.new.entries.items c.nth.result c.index-assigned.result.now lt c.loop-i.invariant c.nth.ensures.value given c.in_ok-add.ensures.ok

pub returns : goal.returns
returns c =
    let plan = c.args.plan.now in
    all_added plan.bookings plan.assigned.items c.loop-i.i c.loop-i.entries.items (omega (arith, c.loop-i-test.false, c.len-i-end.ensures.count)) c.loop-i.invariant
