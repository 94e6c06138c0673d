use Rattle.std.proofs.Common.{◌≡◌, take}
use Rattle.bx_planner.proofs.demand.Demand.bookings.Given as goal

abbrev pub invariant-loop-index : goal.invariant-loop-index
invariant-loop-index l = l.bookings ≡ take l.index l.self
