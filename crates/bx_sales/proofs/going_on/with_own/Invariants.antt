use Rattle.bx_sales.proofs.Beside.{AreSomeIn}
use Rattle.bx_sales.proofs.going_on.with_own.Given as goal

abbrev pub invariant-loop-index : goal.invariant-loop-index
invariant-loop-index l = AreSomeIn l.service l.own l.fn.channels l.index
