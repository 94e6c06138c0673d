use Rattle.bx_line.proofs.Chaining.{AreChained}
use Rattle.bx_line.proofs.by_place.ByPlace.of.Given as goal

abbrev pub invariant-loop-row : goal.invariant-loop-row
invariant-loop-row l = AreChained l.side l.arcs l.places l.row l.first.items l.next.items

abbrev pub decreases-loop-row : goal.decreases-loop-row
decreases-loop-row l = l.row
