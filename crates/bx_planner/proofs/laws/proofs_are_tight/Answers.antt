use Rattle.bx_planner.proofs.Tightness.{proof_is_tight}
use Rattle.bx_planner.proofs.laws.proofs_are_tight.Goals as goal

pub returns : goal.returns
returns c = proof_is_tight
