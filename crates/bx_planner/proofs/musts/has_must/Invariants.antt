use Rattle.std.proofs.Common.{◌≡◌, ◌<◌, ℕ, false}
use Rattle.bx_base.specs.Bookings.{row_at}
use Rattle.bx_planner.proofs.musts.has_must.Given as goal

abbrev pub invariant-loop-i : goal.invariant-loop-i
invariant-loop-i l = (k : ℕ) → k < l.i → (row_at l.demand k).must ≡ false
