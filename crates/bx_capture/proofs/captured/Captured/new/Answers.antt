use Rattle.std.proofs.Common.{rules}
use Rattle.bx_capture.proofs.captured.Captured.new.Goals as goal

pub returns-clause-first : goal.returns-clause-first
returns-clause-first g c = search rules steps 60000
