use Rattle.std.proofs.Common.{ℕ, ◌+◌, ◌<◌}
use Rattle.bx_base.specs.Bound.{price_at}
use Rattle.bx_check.proofs.bound.is_rising.Given as goal

abbrev pub invariant-loop-i : goal.invariant-loop-i
invariant-loop-i l = (k : ℕ) → k + 1 < l.i → (price_at l.prices k).moment < (price_at l.prices (k + 1)).moment
