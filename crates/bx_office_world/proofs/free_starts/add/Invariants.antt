use Rattle.std.proofs.Common.{◌≡◌, ◌≤◌, ◌+◌, ℕ, length, slice_index_or}
use Rattle.bx_office_world.proofs.FreeSeconds.{in_part}
use Rattle.bx_office_world.proofs.free_starts.add.Given as goal

abbrev pub invariant-loop-second : goal.invariant-loop-second
invariant-loop-second l = record {
  size : length l.counts ≡ length l.fn.counts;
  begun : l.booking.start ≤ l.second;
  each : (k : ℕ) → slice_index_or l.counts k 0 ≡ slice_index_or l.fn.counts k 0 + in_part l.booking.start l.second k;
}
