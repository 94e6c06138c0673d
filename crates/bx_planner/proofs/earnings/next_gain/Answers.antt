use Rattle.std.proofs.Common.{ℕ, List, ◌∙◌, ap, subst, arith}
use Rattle.bx_base.specs.Bound.{Charge, sum_of_prices}
use Rattle.bx_base.specs.PlanParts.{parts_of}
use Rattle.bx_planner.specs.Inside.{IsBestChoice}
use Rattle.bx_planner.proofs.Earned.{earned_beside, musts_fit}
use Rattle.bx_planner.proofs.earnings.next_gain.Goals as goal

pub best_choice-requires-clause-room : goal.best_choice-requires-clause-room
best_choice-requires-clause-room c = λ s. omega (arith, musts_fit (parts_of c.args.plan.now) c.requires.proved s, c.count.ensures)

pub returns : goal.returns
returns c =
    let choice = subst (λ (n : ℕ). IsBestChoice c.args.plan.now.bookings n c.in_ok-_accepted._accepted.items c.in_ok-_accepted.prices.items) c.count.ensures.value c.in_ok-_accepted.ensures.best in
    earned_beside (parts_of c.args.plan.now) c.in_ok-_accepted._accepted.items c.in_ok-_accepted.prices.items c.price_sum.result c.in_ok-_accepted.ensures.bookings c.requires.proved choice (c.price_sum.ensures.value ∙ ap (λ (prices : List Charge). sum_of_prices prices) c.deref.ensures.value)
