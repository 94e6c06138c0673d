use Rattle.bx_colour.proofs.Sweeping.{IsSwept}
use Rattle.bx_colour.proofs.colouring.colour.Given as goal

abbrev pub invariant-loop-row : goal.invariant-loop-row
invariant-loop-row l = IsSwept l.bookings l.channels l.row-items l.row-index l.assigned.items l.until
