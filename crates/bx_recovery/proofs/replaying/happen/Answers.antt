use Rattle.std.proofs.Common.{rules}
use Rattle.bx_recovery.proofs.replaying.happen.Goals as goal

pub returns-in-Tick-clause-exchange : goal.returns-in-Tick-clause-exchange
returns-in-Tick-clause-exchange c = search rules steps 400000

pub returns-in-Tick-clause-sent : goal.returns-in-Tick-clause-sent
returns-in-Tick-clause-sent c = search rules steps 400000
