use Rattle.bx_day.specs.RestoringInside.{AreLiveBelow}
use Rattle.bx_day.proofs.restoring.live_anew.Given as goal

abbrev pub invariant-loop-index : goal.invariant-loop-index
invariant-loop-index l = AreLiveBelow l.entries l.index l.live
