use Rattle.bx_far.proofs.AtOnce.{prompt_law}
use Rattle.bx_far.proofs.laws.answered_at_once.Goals as goal

pub returns : goal.returns
returns c = prompt_law
