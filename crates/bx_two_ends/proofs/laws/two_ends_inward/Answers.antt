-- Every world of a run keeps the facts of both laws; those of calls that the far end began say this one.
use Rattle.bx_two_ends.proofs.InwardPoints.{inward_ends_hold}
use Rattle.bx_two_ends.proofs.laws.two_ends_inward.Goals as goal

pub returns : goal.returns
returns c = inward_ends_hold
