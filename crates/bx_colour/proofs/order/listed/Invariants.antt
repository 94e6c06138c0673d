use Rattle.bx_colour.specs.Orders.{IsListed}
use Rattle.bx_colour.proofs.order.listed.Given as goal

abbrev pub invariant-loop-i : goal.invariant-loop-i
invariant-loop-i l = IsListed l.bookings l.accepted l.i l.order.items
