use Rattle.bx_link.proofs.Steps.{then_done}
use Rattle.bx_link.proofs.running.run_turn.Goals as goal

pub returns-clause-ran : goal.returns-clause-ran
returns-clause-ran g c = then_done g.met.W.World.did_more c.in_ok-open_turn.ensures.ran c.hear_turn.ensures.ran
