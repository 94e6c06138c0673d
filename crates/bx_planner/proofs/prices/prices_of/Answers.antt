use Rattle.std.proofs.Common.{rules}
use Rattle.bx_planner.proofs.prices.prices_of.Goals as goal

pub loop-gap-preserved : goal.loop-gap-preserved
loop-gap-preserved c = search rules steps 2000000
