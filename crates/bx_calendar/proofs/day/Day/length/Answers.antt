use Rattle.std.proofs.Common.{rules}
use Rattle.bx_calendar.proofs.day.Day.length.Goals as goal

pub returns-clause-value : goal.returns-clause-value
returns-clause-value c = search rules steps 60000

pub returns-clause-limits : goal.returns-clause-limits
returns-clause-limits c = search rules steps 60000
