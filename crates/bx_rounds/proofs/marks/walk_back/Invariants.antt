use Rattle.std.proofs.Common.{get_or, reverse}
use Rattle.bx_rounds.proofs.Marking.{IsBack}
use Rattle.bx_rounds.proofs.marks.walk_back.Given as goal

abbrev pub invariant-loop-place : goal.invariant-loop-place
invariant-loop-place l =
    IsBack l.line l.steps l.lengths l.marks.ranks.items l.place (reverse l.walk.items)

abbrev pub decreases-loop-place : goal.decreases-loop-place
decreases-loop-place l = get_or l.marks.ranks.items l.place 0
