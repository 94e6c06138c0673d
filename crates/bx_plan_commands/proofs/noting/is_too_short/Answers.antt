use Rattle.std.proofs.Common.{◌≡◌, ◌<◌, ◌∙◌, sym, ap, arith, length, None}
use Rattle.std.proofs.lemmas.List.{get_or_default}
use Rattle.bx_base.specs.Bookings.{Row}
use Rattle.bx_base.specs.PlanParts.{parts_of}
use Rattle.bx_plan_commands.proofs.FoundEnds.{some_end_found, short_behind}
use Rattle.bx_plan_commands.proofs.noting.is_too_short.Goals as goal

pub returns-else-start-eq0 : goal.returns-else-start-eq0
returns-else-start-eq0 c =
    let plan = parts_of c.args.plan.now in
    let i = c.args.index in
    let row = c.nth-booking.result in
    let inside : i < length plan.assigned = omega (arith, c.requires.row, c.args.plan.now.one_each) in
    let given = get_or_default plan.assigned i None c.index.result.now inside ∙ sym c.index.ensures ∙ c.in-Some.is in
    let out = sym c.is_inward.ensures ∙ c.if-start-eq0.false.0 in
    let found = c.some_ends.ensures ∙ some_end_found plan c.args.ends.now c.in-Some.channel c.start-start.result c.requires.ends in
    short_behind plan i c.in-Some.channel c.start-start.result row c.some_ends.result given (sym c.nth-booking.ensures.value) (sym c.start-start.ensures.value)
    (sym c.end-end.ensures.value ∙ c.if-end-start-2.true) out c.if-start-eq0.false.1 found
