use Rattle.bx_planfile.proofs.PlanLaws.{all_again}
use Rattle.bx_planfile.proofs.laws.round_trip.Goals as goal

pub returns : goal.returns
returns c = all_again
