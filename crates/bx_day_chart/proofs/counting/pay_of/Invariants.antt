use Rattle.std.proofs.Common.{◌≡◌, ◌≤◌, ◌*◌, take, if◌then◌else◌}
use Rattle.std.specs.List.{sum_by}
use Rattle.bx_day.specs.declared.entry.Entry.{Entry}
use Rattle.bx_day_chart.specs.Counting.{has_become}
use Rattle.bx_day_chart.proofs.counting.pay_of.Given as goal

abbrev pub invariant-loop-entry : goal.invariant-loop-entry
invariant-loop-entry l = record {
  so_far : l.pay ≡ sum_by (λ (e : Entry). if has_become l.fate e.standing then e.booking.pay else 0) (take l.entry-index l.entries);
  fits : l.pay ≤ l.entry-index * 1000000000;
}
