use Rattle.std.proofs.Common.{◌≡◌, ◌≤◌, ◌<◌, ℕ, not}
use Rattle.bx_office_world.specs.StartMarks.{is_marked_at}
use Rattle.bx_office_world.proofs.free_times.next_mark.Given as goal

abbrev pub invariant-loop-second : goal.invariant-loop-second
invariant-loop-second l = record {
  begun : l.from ≤ l.second;
  before : (k : ℕ) → l.from ≤ k → k < l.second → is_marked_at l.marks k ≡ not l.wanted;
}
