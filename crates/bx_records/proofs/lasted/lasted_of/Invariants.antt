use Rattle.bx_records.specs.Tallies.{IsTotalSoFar}
use Rattle.bx_records.specs.Totals.{carried_seconds, booked_seconds, one_if_short}
use Rattle.bx_records.proofs.lasted.lasted_of.Given as goal

abbrev pub invariant-loop-entry : goal.invariant-loop-entry
invariant-loop-entry l = record {
  carried : IsTotalSoFar carried_seconds l.entries l.entry-index l.lasted.carried;
  booked : IsTotalSoFar booked_seconds l.entries l.entry-index l.lasted.booked;
  short : IsTotalSoFar one_if_short l.entries l.entry-index l.lasted.short;
}
