use Rattle.bx_day.proofs.GoingOn.{seconds_go, messages_go, still_goes, told_once}
use Rattle.bx_day.proofs.handing.goes_on.Goals as goal

pub returns-clause-seconds : goal.returns-clause-seconds
returns-clause-seconds c = seconds_go

pub returns-clause-messages : goal.returns-clause-messages
returns-clause-messages c = messages_go

pub returns-clause-still : goal.returns-clause-still
returns-clause-still c = still_goes

pub returns-clause-told : goal.returns-clause-told
returns-clause-told c = told_once
