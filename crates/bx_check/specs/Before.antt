-- What prices come to before a moment, and up to a place of their list.
use Rattle.std.specs.Prelude.{◌≡◌, ℕ, ◌+◌, ◌≤◌, nat_lt, List, length, sum_by, take, slice_index_or, if◌then◌else◌}
use Rattle.bx_base.specs.Bound.{Charge, sum_of_prices}

-- what the prices before a moment come to
abbrev pub sum_before : List Charge → ℕ → ℕ
sum_before prices moment = sum_by (λ p. if nat_lt p.moment moment then p.amount else 0) prices

-- what the first 0, 1, .. prices of a list come to; for the sums of one check
pub record AreSums (prices : List Charge) (sums : List ℕ) : Type 0 where
  pub count : length sums ≡ length prices + 1
  pub each : (n : ℕ) → n ≤ length prices → slice_index_or sums n 0 ≡ sum_of_prices (take n prices)
