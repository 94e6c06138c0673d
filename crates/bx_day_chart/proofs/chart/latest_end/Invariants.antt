use Rattle.std.proofs.Common.{◌≡◌, ◌≤◌, drop}
use Rattle.bx_day_chart.specs.Charts.{latest_end}
use Rattle.bx_day_chart.proofs.chart.latest_end.Given as goal

abbrev pub invariant-loop-entry : goal.invariant-loop-entry
invariant-loop-entry l = record {
  latest : latest_end l.seconds (drop l.entry-index l.entries) ≡ latest_end l.least l.entries;
  some : 1 ≤ l.seconds;
  few : l.seconds ≤ 200000;
}
