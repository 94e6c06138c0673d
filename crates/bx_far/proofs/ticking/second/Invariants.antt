use Rattle.bx_far.proofs.Passing.{Passed}
use Rattle.bx_far.proofs.ticking.second.Given as goal

abbrev pub invariant-loop-i : goal.invariant-loop-i
invariant-loop-i l = Passed l.fn.moment l.fn.calls l.fn.maintenance l.i l.calls l.maintenance l.said
