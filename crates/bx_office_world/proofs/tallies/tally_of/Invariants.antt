use Rattle.bx_office_world.specs.Tallies.{is_such}
use Rattle.bx_records.specs.Tallies.{IsTallySoFar}
use Rattle.bx_office_world.proofs.tallies.tally_of.Given as goal

abbrev pub invariant-loop-entry : goal.invariant-loop-entry
invariant-loop-entry l = IsTallySoFar (is_such l.became) l.entries l.entry-index l.tally
