use Rattle.bx_day.specs.Linking.{AreStarts}
use Rattle.bx_day.proofs.linking.starts.Given as goal

abbrev pub invariant-loop-index : goal.invariant-loop-index
invariant-loop-index l = AreStarts l.entries l.index l.order.items
