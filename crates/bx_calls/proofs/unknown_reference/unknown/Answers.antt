use Rattle.std.proofs.Common.{arith}
use Rattle.std.proofs.lemmas.Grind.{common_steps}
use Rattle.bx_calls.proofs.unknown_reference.unknown.Goals as goal

pub returns-in-Value : goal.returns-in-Value
returns-in-Value c = grind (arith, common_steps) steps 60000
