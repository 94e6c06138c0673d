use Rattle.std.proofs.Common.{◌≡◌, drop}
use Rattle.bx_day_chart.specs.Maintenance.{since}
use Rattle.bx_day_chart.proofs.maintenance.since.Given as goal

abbrev pub invariant-loop-entry : goal.invariant-loop-entry
invariant-loop-entry l = since l.number l.second (drop l.entry-index l.entries) ≡ since l.number 0 l.entries
