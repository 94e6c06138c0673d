use Rattle.std.proofs.Common.{arith}
use Rattle.std.proofs.lemmas.Grind.{common_steps}
use Rattle.bx_frames.proofs.frame_writing.write_end_of_turn.Goals as goal

pub returns : goal.returns
returns g c = grind (arith, common_steps) steps 400000
