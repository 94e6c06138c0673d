use Rattle.std.proofs.Common.{rules}
use Rattle.bx_dist.proofs.carried.Carried.units.Goals as goal

pub returns : goal.returns
returns c = search rules steps 60000
