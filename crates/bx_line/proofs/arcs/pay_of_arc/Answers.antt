use Rattle.std.proofs.Common.{arith}
use Rattle.std.proofs.lemmas.Grind.{common_steps}
use Rattle.bx_line.proofs.arcs.pay_of_arc.Goals as goal

pub returns-then-is_must : goal.returns-then-is_must
returns-then-is_must c = grind (arith, common_steps) steps 60000
