use Rattle.std.proofs.Common.{rules}
use Rattle.bx_base.proofs.plan.Plan.carried.Goals as goal

pub returns-then-is_none : goal.returns-then-is_none
returns-then-is_none c = search rules steps 400000

pub returns-else-is_none : goal.returns-else-is_none
returns-else-is_none c = search rules steps 60000
