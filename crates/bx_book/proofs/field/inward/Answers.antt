use Rattle.std.proofs.Common.{arith}
use Rattle.std.proofs.lemmas.Grind.{common_steps}
use Rattle.bx_book.proofs.field.inward.Goals as goal

pub returns-in-out : goal.returns-in-out
returns-in-out c = grind (arith, common_steps) steps 2000000
