use Rattle.bx_planner.proofs.Checked.{plan_is_proved}
use Rattle.bx_planner.proofs.laws.plans_are_proved.Goals as goal

pub returns : goal.returns
returns c = plan_is_proved
