use Rattle.bx_market.proofs.PlanDays.{plan_at}
use Rattle.bx_market.proofs.laws.day_of_some_plan.Goals as goal

pub returns : goal.returns
returns c channels rows marks earlier d deals to p run = plan_at channels rows marks earlier d deals to p run
