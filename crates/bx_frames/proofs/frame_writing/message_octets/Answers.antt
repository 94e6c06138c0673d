use Rattle.std.proofs.Common.{arith}
use Rattle.std.proofs.lemmas.Grind.{common_steps}
use Rattle.bx_frames.proofs.frame_writing.message_octets.Goals as goal

pub returns : goal.returns
returns c = grind (arith, common_steps) steps 60000
