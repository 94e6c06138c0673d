use Rattle.std.proofs.Common.{◌≡◌}
use Rattle.bx_far.proofs.Standstill.{later_first}
use Rattle.bx_far.proofs.outages.outlast.Given as goal

abbrev pub invariant-loop-i : goal.invariant-loop-i
invariant-loop-i l = l.calls ≡ later_first l.moment l.i l.fn.calls
