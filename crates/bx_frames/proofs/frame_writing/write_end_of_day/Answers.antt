use Rattle.std.proofs.Common.{rules}
use Rattle.bx_frames.proofs.frame_writing.write_end_of_day.Goals as goal

pub returns : goal.returns
returns g c = search rules steps 60000
