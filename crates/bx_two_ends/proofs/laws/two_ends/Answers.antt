-- Every world of a run keeps its facts: the opening does, and each event; and they say the law.
use Rattle.bx_two_ends.proofs.Points.{two_ends_hold}
use Rattle.bx_two_ends.proofs.laws.two_ends.Goals as goal

pub returns : goal.returns
returns c = two_ends_hold
