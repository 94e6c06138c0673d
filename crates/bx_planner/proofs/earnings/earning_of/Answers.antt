use Rattle.std.proofs.Common.{Bool, List, refl, ◌∙◌, ap}
use Rattle.bx_base.specs.Bookings.{pay_of}
use Rattle.bx_base.specs.Bound.{Charge, sum_of_prices}
use Rattle.bx_colour.specs.Colouring.{is_in}
use Rattle.bx_colour.specs.Loads.{load_at}
use Rattle.bx_planner.proofs.Earned.{earned, too_few}
use Rattle.bx_planner.proofs.earnings.earning_of.Goals as goal

pub returns-in-Some-clause-earned : goal.returns-in-Some-clause-earned
returns-in-Some-clause-earned c =
    let first = (c.in-Some.ensures.first c.in-Some.moment).0 refl in
    too_few c.args.bookings.now c.args.count c.in-Some.moment (load_at c.args.musts.now) c.requires.musts first.0 first.1

pub returns-clause-earned : goal.returns-clause-earned
returns-clause-earned c =
    earned c.args.bookings.now c.args.count c.in_ok-accepted.accepted.items c.in_ok-accepted.prices.items c.total_of-total.result c.price_sum-next.result c.in_ok-accepted.ensures.bookings c.in_ok-accepted.ensures.best
    (c.total_of-total.ensures.total ∙ ap (λ (marks : List Bool). pay_of c.args.bookings.now (is_in marks)) c.deref.ensures.value)
    (c.price_sum-next.ensures.value ∙ ap (λ (prices : List Charge). sum_of_prices prices) c.deref-2.ensures.value)
