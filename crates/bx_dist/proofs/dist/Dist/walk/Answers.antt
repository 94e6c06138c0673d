use Rattle.std.proofs.Common.{rules}
use Rattle.bx_dist.proofs.dist.Dist.walk.Goals as goal

pub returns : goal.returns
returns c = search rules steps 60000
