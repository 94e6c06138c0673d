use Rattle.bx_records.specs.Tallies.{IsTallySoFar}
use Rattle.bx_day.specs.Invariant.{stands_accepted}
use Rattle.bx_records.specs.Totals.{is_carried}
use Rattle.bx_records.proofs.totals.totals_of.Given as goal

abbrev pub invariant-loop-entry : goal.invariant-loop-entry
invariant-loop-entry l = IsTallySoFar stands_accepted l.entries l.entry-index l.totals.accepted × IsTallySoFar is_carried l.entries l.entry-index l.totals.carried
