use Rattle.std.proofs.Common.{rules}
use Rattle.bx_lapd.proofs.data_link.DataLink.note_ready.Goals as goal

pub returns : goal.returns
returns c = search rules steps 250000
