use Rattle.std.proofs.Common.{arith}
use Rattle.std.proofs.lemmas.Grind.{common_steps}
use Rattle.bx_cases.proofs.failing.FailingWrite.write.Goals as goal

pub returns-clause-most : goal.returns-clause-most
returns-clause-most g c = grind (arith, common_steps) steps 60000
