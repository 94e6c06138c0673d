use Rattle.std.proofs.Common.{◌≡◌, ◌≤◌, take, if◌then◌else◌}
use Rattle.std.specs.List.{sum_by}
use Rattle.bx_day.specs.declared.entry.Entry.{Entry}
use Rattle.bx_day_chart.specs.Counting.{has_become}
use Rattle.bx_day_chart.proofs.counting.count_of.Given as goal

abbrev pub invariant-loop-entry : goal.invariant-loop-entry
invariant-loop-entry l = record {
  so_far : l.count ≡ sum_by (λ (e : Entry). if has_become l.fate e.standing then 1 else 0) (take l.entry-index l.entries);
  few : l.count ≤ l.entry-index;
}
