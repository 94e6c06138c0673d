use Rattle.std.proofs.Common.{arith}
use Rattle.std.proofs.lemmas.Grind.{common_steps}
use Rattle.bx_far.proofs.far.Far.receive_live.Goals as goal

pub returns-clause-reply : goal.returns-clause-reply
returns-clause-reply c = grind (arith, common_steps) steps 60000
