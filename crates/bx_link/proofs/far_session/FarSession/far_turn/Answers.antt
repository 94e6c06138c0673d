use Rattle.std.proofs.Common.{arith}
use Rattle.std.proofs.lemmas.Grind.{common_steps}
use Rattle.bx_link.proofs.far_session.FarSession.far_turn.Goals as goal

pub returns-clause-over : goal.returns-clause-over
returns-clause-over g c = grind (arith, common_steps) steps 400000
