use Rattle.std.proofs.Common.{arith, rules}
use Rattle.std.proofs.lemmas.Grind.{common_steps}
use Rattle.bx_text.proofs.block.Block.write_out.Goals as goal

pub returns-clause-text : goal.returns-clause-text
returns-clause-text g c = grind (arith, common_steps) steps 60000

pub returns-clause-empty : goal.returns-clause-empty
returns-clause-empty g c = search rules steps 60000
