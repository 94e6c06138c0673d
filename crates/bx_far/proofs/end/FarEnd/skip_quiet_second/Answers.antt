use Rattle.std.proofs.Common.{rules}
use Rattle.bx_far.proofs.end.FarEnd.skip_quiet_second.Goals as goal

pub returns-clause-day : goal.returns-clause-day
returns-clause-day c = search rules steps 60000

pub returns-clause-sent : goal.returns-clause-sent
returns-clause-sent c = search rules steps 60000

pub returns-clause-text : goal.returns-clause-text
returns-clause-text c = search rules steps 60000
