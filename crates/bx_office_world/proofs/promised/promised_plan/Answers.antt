use Rattle.std.proofs.Common.{◌≡◌, ap, ◌∙◌, subst, Bool, List, rules}
use Rattle.bx_base.specs.Bookings.{Row}
use Rattle.bx_base.specs.PlanParts.{parts_of}
use Rattle.bx_planner.proofs.Proved.{proved_plan}
use Rattle.bx_planner.specs.Musts.{IsTooManyMust}
use Rattle.bx_planner.specs.Proved.{IsProved}
use Rattle.bx_market.specs.Choices.{promised}
use Rattle.bx_sales.specs.Left.{left_in_service}
use Rattle.bx_office_world.specs.Answers.{promised_on_left, IsPromisedPlan}
use Rattle.bx_office_world.proofs.promised.promised_plan.Goals as goal

pub returns-in-Ok-plan-clause-plan : goal.returns-in-Ok-plan-clause-plan
returns-in-Ok-plan-clause-plan c =
    let e = c.in-Ok-plan.ensures in
    let plan = c.in-Ok-plan.plan in
    let day = c.args.exchange.now in
    let left = c.channels_left-left.ensures in
    let rows : c.in-Ok.rows ≡ promised_on_left day c.args.channels = c.in-Ok.ensures ∙ ap (λ (cs : List Bool). promised cs day.moment day.entries) left in
    let proved = proved_plan c.in-Ok.rows c.channels_left-left.result (parts_of plan) e.bookings e.channels e.carried e.lawful e.total e.prices e.best e.least in
    let on_left = subst (λ (cs : List Bool). IsProved c.in-Ok.rows cs (parts_of plan)) left proved in
    let made : IsPromisedPlan day c.args.channels (parts_of plan) = record {
      proved = subst (λ (rs : List Row). IsProved rs (left_in_service c.args.channels day) (parts_of plan)) rows on_left;
      limits = e.limits;
      rows = e.bookings ∙ rows;
    } in
    made

pub returns-in-Err-TooManyMust-clause-none : goal.returns-in-Err-TooManyMust-clause-none
returns-in-Err-TooManyMust-clause-none c =
    let moment = c.in-Err-TooManyMust.moment in
    let day = c.args.exchange.now in
    let left = c.channels_left-left.ensures in
    let rows : c.in-Ok.rows ≡ promised_on_left day c.args.channels = c.in-Ok.ensures ∙ ap (λ (cs : List Bool). promised cs day.moment day.entries) left in
    let must : IsTooManyMust c.in-Ok.rows c.channels_left-left.result moment = (c.in-Err-TooManyMust.ensures.musts moment).0 (search rules steps 1000000) in
    subst (λ (rs : List Row). IsTooManyMust rs (left_in_service c.args.channels day) moment) rows (subst (λ (cs : List Bool). IsTooManyMust c.in-Ok.rows cs moment) left must)
