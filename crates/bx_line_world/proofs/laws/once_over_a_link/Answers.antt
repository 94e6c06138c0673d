use Rattle.bx_line_world.proofs.NearEnd.{once_over}
use Rattle.bx_line_world.proofs.laws.once_over_a_link.Goals as goal

pub returns : goal.returns
returns g c = λ old new acts. once_over g.W.Wire.did old new acts
