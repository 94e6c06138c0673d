use Rattle.bx_line.proofs.MomentLemmas.{HasEnds}
use Rattle.bx_line.proofs.moments.ends_of.Given as goal

abbrev pub invariant-loop-i : goal.invariant-loop-i
invariant-loop-i l = HasEnds l.bookings l.i l.ends.items
