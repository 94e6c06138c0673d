use Rattle.std.proofs.Common.{arith, rules}
use Rattle.std.proofs.lemmas.Grind.{common_steps}
use Rattle.bx_planfile.specs.Reading.{read_total}
use Rattle.bx_planfile.proofs.lines.total_of.Goals as goal

pub returns-clause-limit : goal.returns-clause-limit
unfolding read_total
returns-clause-limit c = search rules steps 60000

pub returns-clause-value : goal.returns-clause-value
unfolding read_total
returns-clause-value c = grind (arith, common_steps) steps 400000
