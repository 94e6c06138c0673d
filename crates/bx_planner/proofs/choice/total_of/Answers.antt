use Rattle.std.proofs.Common.{rules}
use Rattle.bx_planner.proofs.choice.total_of.Goals as goal

pub loop-i-preserved : goal.loop-i-preserved
loop-i-preserved c = search rules steps 400000
