use Rattle.std.proofs.Common.{rules}
use Rattle.bx_lapd.proofs.data_link.DataLink.hear_supervised.Goals as goal

pub returns : goal.returns
returns c = search rules steps 250000
