use Rattle.std.proofs.Common.{List, length, ◌∙◌, ap, sym, arith}
use Rattle.bx_base.specs.Bookings.{Row}
use Rattle.bx_planner.specs.Inside.{demanded}
use Rattle.bx_planner.proofs.Amended.{length_amended}
use Rattle.bx_planner.proofs.demand.Demand.len.Goals as goal

pub returns-in-Some-clause-count : goal.returns-in-Some-clause-count
returns-in-Some-clause-count c =
    let rows = c.self.inside.more.now in
    let whole = ap (λ (rows : List Row). length rows) (sym c.self.view_is ∙ ap (λ o. demanded o rows) c.in-Some.is) in
    omega (arith, whole, length_amended c.in-Some.plan.now.bookings c.in-Some.plan.now.assigned.items rows, c.len.ensures.count, c.len-in-Some.ensures.count)
