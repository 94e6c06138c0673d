use Rattle.std.proofs.Common.{rules}
use Rattle.bx_lapd.proofs.data_link.DataLink.established_anew.Goals as goal

pub returns : goal.returns
returns c = search rules steps 250000

pub returns-then-self : goal.returns-then-self
returns-then-self c = search rules steps 250000
