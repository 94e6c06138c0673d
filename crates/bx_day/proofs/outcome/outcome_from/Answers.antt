use Rattle.std.proofs.Common.{rules}
use Rattle.bx_day.proofs.outcome.outcome_from.Goals as goal

pub returns-in-Refused : goal.returns-in-Refused
returns-in-Refused c = search rules steps 60000
