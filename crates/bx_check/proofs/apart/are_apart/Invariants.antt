use Rattle.bx_check.specs.Seats.{KeepApart}
use Rattle.bx_check.proofs.apart.are_apart.Given as goal

abbrev pub invariant-loop-k : goal.invariant-loop-k
invariant-loop-k l = KeepApart l.plan.bookings l.sorted l.k
