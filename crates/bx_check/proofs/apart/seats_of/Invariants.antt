use Rattle.bx_check.specs.Seats.{AreSeats}
use Rattle.bx_check.proofs.apart.seats_of.Given as goal

abbrev pub invariant-loop-i : goal.invariant-loop-i
invariant-loop-i l = AreSeats l.plan.bookings l.plan.assigned.items l.i l.seats.items
