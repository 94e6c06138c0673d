use Rattle.std.proofs.Common.{rules}
use Rattle.bx_dist.proofs.dist.Dist.new.Goals as goal

pub returns-clause-walk : goal.returns-clause-walk
returns-clause-walk c = search rules steps 60000
