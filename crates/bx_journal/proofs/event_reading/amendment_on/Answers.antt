use Rattle.std.proofs.Common.{rules}
use Rattle.bx_journal.proofs.event_reading.amendment_on.Goals as goal

pub returns-in-Some : goal.returns-in-Some
returns-in-Some c = search rules steps 1000000
