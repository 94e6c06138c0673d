use Rattle.std.proofs.Common.{arith}
use Rattle.std.proofs.lemmas.Grind.{common_steps}
use Rattle.bx_planfile.specs.Reading.{read_count}
use Rattle.bx_planfile.proofs.lines.count_of.Goals as goal

pub returns-clause-few : goal.returns-clause-few
unfolding read_count
returns-clause-few c = grind (arith, common_steps) steps 400000

pub returns-clause-value : goal.returns-clause-value
unfolding read_count
returns-clause-value c = grind (arith, common_steps) steps 400000

pub overflow_cast-result : goal.overflow_cast-result
unfolding read_count
overflow_cast-result c = grind (arith, common_steps) steps 400000
