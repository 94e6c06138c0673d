use Rattle.std.proofs.Common.{arith}
use Rattle.std.proofs.lemmas.Grind.{common_steps}
use Rattle.bx_dist.proofs.steps.is_open.Goals as goal

pub returns-then-from : goal.returns-then-from
returns-then-from c = grind (arith, common_steps) steps 60000

pub returns-in-Idle : goal.returns-in-Idle
returns-in-Idle c = grind (arith, common_steps) steps 60000
