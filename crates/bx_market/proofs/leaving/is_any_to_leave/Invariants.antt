use Rattle.std.proofs.Common.{ℕ, ◌<◌}
use Rattle.bx_market.specs.Leaving.{IsToLeave}
use Rattle.bx_market.proofs.leaving.is_any_to_leave.Given as goal

abbrev pub invariant-loop-place : goal.invariant-loop-place
invariant-loop-place l = (i : ℕ) → i < l.place → IsToLeave l.channels l.exchange i → ⊥
