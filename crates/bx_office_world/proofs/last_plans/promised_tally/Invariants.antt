use Rattle.bx_day.specs.Invariant.{stands_accepted}
use Rattle.bx_records.specs.Tallies.{IsTallySoFar}
use Rattle.bx_office_world.proofs.last_plans.promised_tally.Given as goal

abbrev pub invariant-loop-entry : goal.invariant-loop-entry
invariant-loop-entry l = IsTallySoFar stands_accepted l.entries l.entry-index l.tally
