use Rattle.std.proofs.Common.{rules}
use Rattle.bx_dist.proofs.steps.ends_of.Goals as goal

pub returns-in-Give-clause-cost : goal.returns-in-Give-clause-cost
returns-in-Give-clause-cost c = search rules steps 60000
