-- What was lost with the link costs six seconds of it at most.
use Rattle.bx_two_ends.proofs.LossyDays.{carried_over, in_service_over}
use Rattle.bx_two_ends.proofs.TalkingDays.{carried_between, carried_through}
use Rattle.bx_two_ends.proofs.earned.carried_behind_outages.Goals as goal

pub returns-clause-carried : goal.returns-clause-carried
returns-clause-carried c rows channels assigned script seconds whole i b set carries once ok few long = carried_over rows channels assigned script seconds whole i b set carries once ok few long

pub returns-clause-between : goal.returns-clause-between
returns-clause-between c rows channels assigned script before after between whole i b set carries once ok ok' few long = carried_between rows channels assigned script before after between whole i b set carries once ok ok' few long

pub returns-clause-through : goal.returns-clause-through
returns-clause-through c rows channels assigned script before after whole i b set carries once ok ok' few up = carried_through rows channels assigned script before after whole i b set carries once ok ok' few up

pub returns-clause-in_service : goal.returns-clause-in_service
returns-clause-in_service c rows channels assigned script seconds channel b set carries once ok few = in_service_over rows channels assigned script seconds channel b set carries once ok few
