use Rattle.bx_live.proofs.Syncs.{shared_law}
use Rattle.bx_live.proofs.laws.syncs_are_shared.Goals as goal

pub returns : goal.returns
returns c = shared_law
