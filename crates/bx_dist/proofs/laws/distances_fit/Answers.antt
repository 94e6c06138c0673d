use Rattle.bx_dist.proofs.After.{distances_fit}
use Rattle.bx_dist.proofs.laws.distances_fit.Goals as goal

pub returns : goal.returns
returns c = distances_fit
