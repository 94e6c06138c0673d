-- Sums over the numbers below a bound.
use Rattle.std.specs.Prelude.{ℕ, ◌+◌, ℤ, pos, ◌+ℤ◌}
use Rattle.std.proofs.Common.{zero, suc}

-- the sum of f over the numbers below n
abbrev pub sum_below : ℕ → (ℕ → ℕ) → ℕ
sum_below zero f = 0
sum_below (suc n) f = sum_below n f + f n

-- the same of whole numbers
abbrev pub sum_ints_below : ℕ → (ℕ → ℤ) → ℤ
sum_ints_below zero f = pos 0
sum_ints_below (suc n) f = sum_ints_below n f +ℤ f n
