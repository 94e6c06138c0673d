use Rattle.std.proofs.Common.{◌<◌, length, None, arith, ◌∙◌}
use Rattle.std.proofs.lemmas.Grind.{common_steps}
use Rattle.std.proofs.lemmas.List.{get_or_default}
use Rattle.bx_day.specs.Day.{no_entry}
use Rattle.bx_day.proofs.ChangedIndex.{one_more_agrees}
use Rattle.bx_day.proofs.changing.do_agree.Goals as goal

pub loop-index-preserved : goal.loop-index-preserved
loop-index-preserved c =
    let k = c.loop-index.index in
    let es = c.args.entries.now in
    let plan = c.args.plan.now in
    let inside : k < length es = grind (arith, common_steps) in
    let given : k < length plan.assigned.items = grind (arith, common_steps) in
    one_more_agrees c.args.moment k es plan.bookings plan.assigned.items c.index-entries-place.result c.nth.result c.index.result.now c.loop-index.invariant
    (c.index-entries-place.is ∙ get_or_default es k c.index-entries-place.result no_entry inside)
    c.nth.ensures.value
    (c.index.ensures ∙ get_or_default plan.assigned.items k c.index.result.now None given)
    (c.agrees.ensures.0 c.if-not-agrees.false)
