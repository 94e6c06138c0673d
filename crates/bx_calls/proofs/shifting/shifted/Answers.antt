use Rattle.bx_calls.proofs.Shifted.{told_back, second_later, unlinked_later, message_later, end_unasked}
use Rattle.bx_calls.proofs.shifting.shifted.Goals as goal

pub returns-clause-back : goal.returns-clause-back
returns-clause-back c = told_back

pub returns-clause-seconds : goal.returns-clause-seconds
returns-clause-seconds c = second_later

pub returns-clause-outages : goal.returns-clause-outages
returns-clause-outages c = unlinked_later

pub returns-clause-messages : goal.returns-clause-messages
returns-clause-messages c = message_later

pub returns-clause-ends : goal.returns-clause-ends
returns-clause-ends c = end_unasked
