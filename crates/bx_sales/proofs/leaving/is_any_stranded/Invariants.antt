use Rattle.std.proofs.Common.{ℕ, ◌<◌}
use Rattle.bx_sales.specs.Leaving.{IsStranded}
use Rattle.bx_sales.proofs.leaving.is_any_stranded.Given as goal

abbrev pub invariant-loop-place : goal.invariant-loop-place
invariant-loop-place l = (k : ℕ) → k < l.place → ¬ IsStranded l.exchange k
