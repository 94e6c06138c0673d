use Rattle.std.proofs.Common.{rules}
use Rattle.bx_frames.proofs.turn.answer.Goals as goal

pub returns-in-Some-clause-written : goal.returns-in-Some-clause-written
returns-in-Some-clause-written g c = search rules steps 400000
