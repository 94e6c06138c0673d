use Rattle.std.proofs.Common.{rules}
use Rattle.bx_day_openings.proofs.recording.records_file_of.Goals as goal

pub returns-in-Ok-clause-opened : goal.returns-in-Ok-clause-opened
returns-in-Ok-clause-opened g c = search rules steps 1000000
