use Rattle.std.proofs.Common.{arith, rules}
use Rattle.std.proofs.lemmas.Grind.{common_steps}
use Rattle.bx_text.proofs.lines.append.Goals as goal

pub returns-clause-items : goal.returns-clause-items
returns-clause-items c = search rules steps 60000

pub returns-clause-len : goal.returns-clause-len
returns-clause-len c = grind (arith, common_steps) steps 60000
