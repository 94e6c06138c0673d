use Rattle.bx_planfile.proofs.PlanLaws.{same_plan}
use Rattle.bx_planfile.proofs.laws.one_plan_per_text.Goals as goal

pub returns : goal.returns
returns c = same_plan
