use Rattle.bx_day.specs.Outlasting.{AreOutlasting}
use Rattle.bx_day.proofs.outages.outlast.Given as goal

abbrev pub invariant-loop-index : goal.invariant-loop-index
invariant-loop-index l = AreOutlasting l.rules l.seconds l.moment l.index l.fn.entries l.entries
