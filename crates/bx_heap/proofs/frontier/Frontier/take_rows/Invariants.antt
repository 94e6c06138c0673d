use Rattle.std.proofs.Common.{◌≡◌, ℕ, ◌<◌, Some, length}
use Rattle.bx_line.specs.ByPlace.{row_place}
use Rattle.bx_dist.proofs.Rows.{rows_left}
use Rattle.bx_heap.specs.Searching.{state_from, setting_of, IsSettling, IsLeftToTake, turn_on}
use Rattle.bx_heap.proofs.Rows.{IsStillLeft}
use Rattle.bx_heap.proofs.frontier.Frontier.take_rows.Given as goal

abbrev pub invariant-loop-next : goal.invariant-loop-next
invariant-loop-next l =
    record {
      there : (r : ℕ) → l.next ≡ Some r → (r < length l.line.arcs) × (row_place l.side l.line.arcs r ≡ l.place);
      settling : IsSettling (setting_of l.part l.line l.carried l.potentials) (state_from l.self) l.place (λ t. IsLeftToTake l.line l.place (turn_on l.side) t × IsStillLeft l.side l.next t);
      count : l.self.count ≡ l.initial.self.count;
    }

abbrev pub decreases-loop-next : goal.decreases-loop-next
decreases-loop-next l = rows_left (length l.line.arcs) l.next
