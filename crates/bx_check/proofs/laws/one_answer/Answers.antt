use Rattle.bx_check.proofs.One.{one_answer}
use Rattle.bx_check.proofs.laws.one_answer.Goals as goal

pub returns : goal.returns
returns c = one_answer
