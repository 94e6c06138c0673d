use Rattle.std.proofs.Common.{arith}
use Rattle.std.proofs.lemmas.Grind.{common_steps}
use Rattle.bx_frames.proofs.frame_reading.read_octets.Goals as goal

pub returns-in-Ok-try_from-clause-read : goal.returns-in-Ok-try_from-clause-read
returns-in-Ok-try_from-clause-read g c = grind (arith, common_steps) steps 2000000
