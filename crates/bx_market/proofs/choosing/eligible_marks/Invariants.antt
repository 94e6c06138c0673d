use Rattle.std.proofs.Common.{◌≡◌, ◌++◌, drop}
use Rattle.bx_market.specs.Choices.{eligible_marks}
use Rattle.bx_market.proofs.choosing.eligible_marks.Given as goal

abbrev pub invariant-loop-index : goal.invariant-loop-index
invariant-loop-index l = l.eligible.items ++ eligible_marks l.moment l.count (drop l.index l.batch) ≡ eligible_marks l.moment l.fn.count l.batch
