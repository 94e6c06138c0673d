use Rattle.bx_dist.proofs.Fitting.{walk_long}
use Rattle.bx_dist.proofs.laws.walks_are_long.Goals as goal

pub returns : goal.returns
returns c = λ part line flow heights from to walk fits w. walk_long part line flow heights fits from to walk w
