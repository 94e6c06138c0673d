use Rattle.std.proofs.Common.{rules}
use Rattle.bx_day_openings.proofs.recording.unrecorded.Goals as goal

pub returns-in-WriteFailed : goal.returns-in-WriteFailed
returns-in-WriteFailed c = search rules steps 60000
