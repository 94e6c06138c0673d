use Rattle.std.proofs.Common.{◌≤◌, ◌<◌, ℕ, slice_index_or}
use Rattle.bx_office_world.proofs.free_starts.free_until.Given as goal

abbrev pub invariant-loop-second : goal.invariant-loop-second
invariant-loop-second l = record {
  begun : l.from ≤ l.second;
  free : (k : ℕ) → l.from ≤ k → k < l.second → slice_index_or l.counts k 0 < l.limit;
}
