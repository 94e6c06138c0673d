use Rattle.std.proofs.Common.{◌≡◌, ◌++◌, drop}
use Rattle.bx_market.specs.LeavingSteps.{begun_rows}
use Rattle.bx_market.proofs.keeping.begun_rows.Given as goal

abbrev pub invariant-loop-entry : goal.invariant-loop-entry
invariant-loop-entry l = l.rows ++ begun_rows l.channels l.moment (drop l.entry-index l.entries) ≡ begun_rows l.channels l.moment l.entries
