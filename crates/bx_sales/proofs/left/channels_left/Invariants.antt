use Rattle.std.proofs.Common.{◌≡◌}
use Rattle.bx_sales.specs.Left.{left_below}
use Rattle.bx_sales.proofs.left.channels_left.Given as goal

abbrev pub invariant-loop-number : goal.invariant-loop-number
invariant-loop-number l = l.left ≡ left_below l.number l.exchange.maintenance l.fn.channels
