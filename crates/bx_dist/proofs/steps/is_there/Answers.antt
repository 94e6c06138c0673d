use Rattle.std.proofs.Common.{arith}
use Rattle.std.proofs.lemmas.Grind.{common_steps}
use Rattle.bx_dist.proofs.steps.is_there.Goals as goal

pub returns-in-Back : goal.returns-in-Back
returns-in-Back c = grind (arith, common_steps) steps 60000
