use Rattle.std.proofs.Common.{◌≡◌, ℕ, ◌<◌, length, get_or}
use Rattle.bx_base.specs.Bookings.{row_at}
use Rattle.bx_line.specs.Network.{IsArcOf, no_arc}
use Rattle.bx_line.proofs.arcs.arcs_of.Given as goal

abbrev pub invariant-loop-i : goal.invariant-loop-i
invariant-loop-i l =
    record {
      size : length l.arcs.items ≡ l.i;
      each : (k : ℕ) → k < l.i → IsArcOf l.moments (row_at l.bookings k) (get_or l.arcs.items k no_arc);
    }
