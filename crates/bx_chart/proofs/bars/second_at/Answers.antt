use Rattle.std.proofs.Common.{arith}
use Rattle.std.proofs.lemmas.Grind.{common_steps}
use Rattle.bx_chart.proofs.bars.second_at.Goals as goal

pub returns-in-Some-second_shown : goal.returns-in-Some-second_shown
returns-in-Some-second_shown c = grind (arith, common_steps) steps 60000
