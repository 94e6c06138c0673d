use Rattle.std.proofs.Common.{ℕ, ◌≤◌}
use Rattle.bx_colour.specs.Counted.{counted_to, running_between}
use Rattle.bx_colour.proofs.load.first_between.Given as goal

abbrev pub invariant-loop-index : goal.invariant-loop-index
invariant-loop-index l = record {
  known : (s : ℕ) → l.index ≤ counted_to l.starts s → l.ended ≤ counted_to l.ends s;
  none : (s : ℕ) → counted_to l.starts s ≤ l.index → running_between l.starts l.ends s ≤ l.limit;
  few : l.ended ≤ 32000;
}
