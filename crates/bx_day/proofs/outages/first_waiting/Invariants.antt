use Rattle.bx_day.specs.Outlasting.{AreEarliest}
use Rattle.bx_day.proofs.outages.first_waiting.Given as goal

abbrev pub invariant-loop-index : goal.invariant-loop-index
invariant-loop-index l = AreEarliest l.entries l.index l.first
