-- A far end that answers, or clears, by its messages does so in each turn.
use Rattle.bx_two_ends.proofs.AnsweringDays.{answered_by, cleared_by}
use Rattle.bx_two_ends.proofs.earned.turns_are_answered.Goals as goal

pub returns-clause-answered : goal.returns-clause-answered
returns-clause-answered c rows channels assigned seconds b set h few ok = answered_by rows channels assigned seconds b set h few ok

pub returns-clause-cleared : goal.returns-clause-cleared
returns-clause-cleared c rows channels assigned seconds b set h few ok = cleared_by rows channels assigned seconds b set h few ok
