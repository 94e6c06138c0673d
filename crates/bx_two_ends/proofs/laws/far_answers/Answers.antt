-- A far end that answers at once answers each turn.
use Rattle.bx_two_ends.proofs.Lockstep.{far_end_answers}
use Rattle.bx_two_ends.proofs.laws.far_answers.Goals as goal

pub returns : goal.returns
returns c = far_end_answers
