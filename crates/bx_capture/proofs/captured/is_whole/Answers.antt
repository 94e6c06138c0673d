use Rattle.std.proofs.Common.{rules}
use Rattle.bx_capture.proofs.captured.is_whole.Goals as goal

pub returns-in-Some : goal.returns-in-Some
returns-in-Some g c = search rules steps 60000
