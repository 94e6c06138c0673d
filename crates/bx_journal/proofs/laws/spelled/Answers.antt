use Rattle.bx_journal.proofs.Spelled.{prefix_spelled}
use Rattle.bx_journal.proofs.laws.spelled.Goals as goal

pub returns : goal.returns
returns c = λ wanted octets r e. prefix_spelled wanted octets r e
