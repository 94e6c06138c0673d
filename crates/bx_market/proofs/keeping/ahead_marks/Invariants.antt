use Rattle.std.proofs.Common.{◌≡◌, ◌++◌, drop}
use Rattle.bx_market.specs.LeavingSteps.{ahead_marks}
use Rattle.bx_market.proofs.keeping.ahead_marks.Given as goal

abbrev pub invariant-loop-entry : goal.invariant-loop-entry
invariant-loop-entry l = l.marks.items ++ ahead_marks l.moment (drop l.entry-index l.entries) ≡ ahead_marks l.moment l.entries
