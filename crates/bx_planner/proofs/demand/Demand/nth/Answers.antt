use Rattle.std.proofs.Common.{ℕ, ◌-◌, ◌<◌, ◌∙◌, ap, sym, arith, List, length, Option, None, is_some}
use Rattle.std.proofs.lemmas.List.{get_or_default}
use Rattle.bx_base.specs.Bookings.{Row, row_at}
use Rattle.bx_planner.specs.Inside.{demanded}
use Rattle.bx_planner.proofs.Amended.{length_amended, row_later, same_row}
use Rattle.bx_planner.proofs.demand.Demand.nth.Goals as goal

pub nth-requires-then-index-earlier : goal.nth-requires-then-index-earlier
nth-requires-then-index-earlier c =
    let plan = c.in-Some.plan.now in
    let more = c.self.inside.more.now in
    let whole = ap (λ (rows : List Row). length rows) (sym c.self.view_is ∙ ap (λ o. demanded o more) c.in-Some.is) in
    omega (arith, c.requires, whole, length_amended plan.bookings plan.assigned.items more, c.len-earlier.ensures.count, c.if-index-earlier.true)

pub returns-then-index-earlier : goal.returns-then-index-earlier
returns-then-index-earlier c =
    let plan = c.in-Some.plan.now in
    let more = c.self.inside.more.now in
    let whole = sym c.self.view_is ∙ ap (λ o. demanded o more) c.in-Some.is in
    let place = c.len-earlier.ensures.count in
    let there = row_later plan.bookings plan.assigned.items more c.args.index (omega (arith, place, c.if-index-earlier.true)) in
    c.nth-then-index-earlier.ensures.value ∙ ap (λ (n : ℕ). row_at more (c.args.index - n)) place ∙ sym there ∙ ap (λ (rows : List Row). row_at rows c.args.index) (sym whole)

pub returns : goal.returns
returns c =
    let plan = c.in-Some.plan.now in
    let more = c.self.inside.more.now in
    let whole = sym c.self.view_is ∙ ap (λ o. demanded o more) c.in-Some.is in
    let inside : c.args.index < length plan.assigned.items = omega arith in
    let there = c.index.ensures ∙ get_or_default plan.assigned.items c.args.index c.index.result.now None inside in
    same_row plan.bookings plan.assigned.items more c.args.self.now c.args.index c.nth-2.result c.is_some.result c.promised.result
    whole (omega arith) c.nth-2.ensures.value (c.is_some.ensures ∙ ap (λ (o : Option ℕ). is_some o) there) c.promised.ensures
