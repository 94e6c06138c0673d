use Rattle.std.proofs.Common.{ℕ, ◌<◌}
use Rattle.bx_market.specs.LeavingSteps.{IsToBeLeft}
use Rattle.bx_market.proofs.leaving.lowest_to_be_left.Given as goal

abbrev pub invariant-loop-number : goal.invariant-loop-number
invariant-loop-number l = (n : ℕ) → n < l.number → IsToBeLeft l.channels l.exchange n → ⊥
