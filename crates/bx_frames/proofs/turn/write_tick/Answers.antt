use Rattle.std.proofs.Common.{rules}
use Rattle.bx_frames.proofs.turn.write_tick.Goals as goal

pub returns-clause-written : goal.returns-clause-written
returns-clause-written g c = search rules steps 400000
