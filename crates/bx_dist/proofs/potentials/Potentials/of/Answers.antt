use Rattle.std.proofs.Common.{rules}
use Rattle.bx_dist.proofs.potentials.Potentials.of.Goals as goal

pub returns : goal.returns
returns c = search rules steps 60000
