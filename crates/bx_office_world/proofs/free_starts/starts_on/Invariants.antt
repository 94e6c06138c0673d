use Rattle.std.proofs.Common.{◌≡◌, ◌↔◌, ◌≤◌, ◌<◌, ℕ, true, length, slice_index_or}
use Rattle.bx_office_world.specs.StartMarks.{is_marked_at, IsStartOn}
use Rattle.bx_office_world.proofs.free_starts.starts_on.Given as goal

abbrev pub invariant-loop-start : goal.invariant-loop-start
invariant-loop-start l = record {
  size : length l.marks.items ≡ l.start;
  within : l.free ≤ length l.counts;
  free : (k : ℕ) → l.start ≤ k → k < l.free → slice_index_or l.counts k 0 < l.limit;
  marked : (k : ℕ) → k < l.start → (is_marked_at l.marks.items k ≡ true) ↔ IsStartOn l.counts l.limit l.moment l.last l.wish k;
}
