use Rattle.std.proofs.Common.{rules}
use Rattle.bx_day_openings.proofs.recording.records_clock_of.Goals as goal

pub returns-in-Some-clause-clock : goal.returns-in-Some-clause-clock
returns-in-Some-clause-clock c = search rules steps 1000000
