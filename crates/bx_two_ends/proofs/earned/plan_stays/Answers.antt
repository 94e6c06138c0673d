-- No event changes what the plan says.
use Rattle.bx_two_ends.proofs.EarnedDays.{stays_plan}
use Rattle.bx_two_ends.proofs.earned.plan_stays.Goals as goal

pub returns : goal.returns
returns c rows channels assigned events b h = stays_plan rows channels assigned events b h
