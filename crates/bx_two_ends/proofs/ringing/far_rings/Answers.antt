-- A far end whose script lets calls ring answers each in its own time.
use Rattle.bx_two_ends.proofs.RingEnds.{answers_within}
use Rattle.bx_two_ends.proofs.ringing.far_rings.Goals as goal

pub returns : goal.returns
returns c rows channels assigned script turns b set carries ok short = answers_within rows channels assigned script turns b set carries ok short
