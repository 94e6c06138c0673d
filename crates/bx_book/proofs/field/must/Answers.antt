use Rattle.std.proofs.Common.{arith}
use Rattle.std.proofs.lemmas.Grind.{common_steps}
use Rattle.bx_book.proofs.field.must.Goals as goal

pub returns-in-no : goal.returns-in-no
returns-in-no c = grind (arith, common_steps) steps 2000000
