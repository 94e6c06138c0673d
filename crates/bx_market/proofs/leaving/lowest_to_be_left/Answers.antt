use Rattle.std.proofs.Common.{◌≡◌, ◌<◌, ℕ, arith}
use Rattle.bx_market.specs.LeavingSteps.{IsToBeLeft}
use Rattle.bx_market.proofs.LeavingSteps.{some_map}
use Rattle.bx_market.proofs.leaving.lowest_to_be_left.Goals as goal

pub returns-then-is_to_be_left-clause-lowest : goal.returns-then-is_to_be_left-clause-lowest
returns-then-is_to_be_left-clause-lowest c =
    some_map (λ k. k ≡ c.loop-number.number) (λ k. (n : ℕ) → n < k → IsToBeLeft c.args.channels c.args.exchange.now n → ⊥) c.new.result
    (λ k is n less. c.loop-number.invariant n (omega (arith, is, less))) c.new.ensures.value
