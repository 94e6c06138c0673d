use Rattle.std.proofs.Common.{rules}
use Rattle.bx_lapd.proofs.data_link.DataLink.reject.Goals as goal

pub returns : goal.returns
returns c = search rules steps 60000
