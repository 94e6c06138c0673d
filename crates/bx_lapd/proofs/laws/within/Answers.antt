use Rattle.bx_lapd.proofs.Bounds.{within}
use Rattle.bx_lapd.proofs.laws.within.Goals as goal

pub returns : goal.returns
returns c = within
