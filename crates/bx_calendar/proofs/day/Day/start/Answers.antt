use Rattle.std.proofs.Common.{rules}
use Rattle.bx_calendar.proofs.day.Day.start.Goals as goal

pub returns-clause-value : goal.returns-clause-value
returns-clause-value c = search rules steps 60000
