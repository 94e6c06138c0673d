use Rattle.bx_lapd.proofs.Lines.{once_holds}
use Rattle.bx_lapd.proofs.laws.once.Goals as goal

pub returns : goal.returns
returns c = once_holds
