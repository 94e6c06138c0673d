use Rattle.std.proofs.Common.{◌≡◌, ℕ, ◌≤◌, ◌+◌, ◌-◌, length, vec_len}
use Rattle.bx_planfile.specs.Reading.{read_bookings}
use Rattle.bx_planfile.proofs.Loops.{with_entries}
use Rattle.bx_planfile.proofs.lists.bookings_of.Given as goal

abbrev pub invariant-loop-i : goal.invariant-loop-i
invariant-loop-i l = record {
  rows : length l.bookings ≡ l.i;
  assigned : vec_len l.assigned ≡ l.i;
  so_far : (m : ℕ) → l.i ≤ m → with_entries l.bookings l.assigned.items (read_bookings l.version (m - l.i) (l.n + l.i) l.rest) ≡ read_bookings l.version m l.n l.bytes;
}
