use Rattle.std.proofs.Common.{◌≡◌, ℕ, ◌<◌, Some, length}
use Rattle.bx_line.specs.ByPlace.{row_place}
use Rattle.bx_line.specs.declared.incidence.Incidence.TheVariants.{Leaving}
use Rattle.bx_dist.proofs.Along.{IsPassing, IsRowLeft}
use Rattle.bx_dist.proofs.Rows.{rows_left}
use Rattle.bx_dist.proofs.first.pass.Given as goal

abbrev pub invariant-loop-next : goal.invariant-loop-next
invariant-loop-next l =
    record {
      there : (r : ℕ) → l.next ≡ Some r → (r < length l.line.arcs) × (row_place Leaving l.line.arcs r ≡ l.place);
      passing : IsPassing l.line l.place (IsRowLeft l.line l.place l.next) l.lengths;
    }

abbrev pub decreases-loop-next : goal.decreases-loop-next
decreases-loop-next l = rows_left (length l.line.arcs) l.next
