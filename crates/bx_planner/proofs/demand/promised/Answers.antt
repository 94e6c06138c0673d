use Rattle.std.proofs.Common.{arith}
use Rattle.std.proofs.lemmas.Grind.{common_steps}
use Rattle.bx_planner.proofs.demand.promised.Goals as goal

pub returns-then-is_inward : goal.returns-then-is_inward
returns-then-is_inward c = grind (arith, common_steps) steps 60000

pub returns-else-is_inward : goal.returns-else-is_inward
returns-else-is_inward c = grind (arith, common_steps) steps 60000
