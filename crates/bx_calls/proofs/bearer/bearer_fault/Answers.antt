use Rattle.std.proofs.Common.{arith}
use Rattle.std.proofs.lemmas.Grind.{common_steps}
use Rattle.bx_calls.proofs.bearer.bearer_fault.Goals as goal

pub returns-in-Some-eq136 : goal.returns-in-Some-eq136
returns-in-Some-eq136 c = grind (arith, common_steps) steps 60000
