use Rattle.std.proofs.Common.{List, subst}
use Rattle.bx_base.specs.Bookings.{Row}
use Rattle.bx_base.specs.PlanParts.{parts_of}
use Rattle.bx_planner.specs.Amending.{IsBestPlan}
use Rattle.bx_planner.proofs.amending.planned_anew.Goals as goal

pub returns-clause-planned : goal.returns-clause-planned
returns-clause-planned c = subst (λ (rows : List Row). IsBestPlan rows c.args.channels (parts_of c.in_ok-plan.plan)) c.in_ok-bookings.ensures c.in_ok-plan.ensures.planned
