use Rattle.bx_day.proofs.Handed.{state_over, named_over, unnoticed, calls_over}
use Rattle.bx_day.proofs.handing.taken_over.Goals as goal

pub returns-clause-state : goal.returns-clause-state
returns-clause-state c = state_over

pub returns-clause-named : goal.returns-clause-named
returns-clause-named c = named_over

pub returns-clause-unnoticed : goal.returns-clause-unnoticed
returns-clause-unnoticed c = unnoticed

pub returns-clause-calls : goal.returns-clause-calls
returns-clause-calls c = calls_over
