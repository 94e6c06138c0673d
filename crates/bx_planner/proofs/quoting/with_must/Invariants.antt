use Rattle.std.proofs.Common.{◌≡◌, take}
use Rattle.bx_planner.specs.Weighing.{rows_held}
use Rattle.bx_planner.proofs.quoting.with_must.Given as goal

abbrev pub invariant-loop-place : goal.invariant-loop-place
invariant-loop-place l = l.rows ≡ take l.place (rows_held l.bookings l.index)
