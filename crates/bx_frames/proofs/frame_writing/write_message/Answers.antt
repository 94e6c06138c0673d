use Rattle.std.proofs.Common.{rules}
use Rattle.bx_frames.proofs.frame_writing.write_message.Goals as goal

pub returns : goal.returns
returns g c = search rules steps 400000
