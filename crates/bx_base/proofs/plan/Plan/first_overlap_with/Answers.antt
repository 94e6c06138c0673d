use Rattle.std.proofs.Common.{rules}
use Rattle.bx_base.proofs.plan.Plan.first_overlap_with.Goals as goal

pub loop-k-init : goal.loop-k-init
loop-k-init c = search rules steps 60000
