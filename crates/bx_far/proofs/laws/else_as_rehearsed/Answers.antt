use Rattle.bx_far.proofs.AtOnce.{rehearsed_law}
use Rattle.bx_far.proofs.laws.else_as_rehearsed.Goals as goal

pub returns : goal.returns
returns c = rehearsed_law
