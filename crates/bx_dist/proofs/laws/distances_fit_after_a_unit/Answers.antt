use Rattle.bx_dist.proofs.After.{distances_fit_after}
use Rattle.bx_dist.proofs.laws.distances_fit_after_a_unit.Goals as goal

pub returns : goal.returns
returns c = distances_fit_after
