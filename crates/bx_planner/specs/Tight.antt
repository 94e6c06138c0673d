-- What it says of single prices and rows that a bound is the pay of a set: complementary slackness.
use Rattle.std.specs.Prelude.{◌≡◌, ℕ, ◌<◌, ◌≤◌, ◌&&◌, Bool, true, false, List, length, All, if◌then◌else◌}
use Rattle.bx_base.specs.Sums.{sum_below}
use Rattle.bx_base.specs.Bookings.{Row, row_at, is_running}
use Rattle.bx_base.specs.Bound.{Charge, Proves, cost_of}
use Rattle.bx_base.specs.Channels.{count_of}

-- how many rows of the set run at the moment
abbrev pub runs_at : List Row → (ℕ → Bool) → ℕ → ℕ
runs_at rows set moment = sum_below (length rows) (λ i. if set i && is_running (row_at rows i) moment then 1 else 0)

-- nothing is charged while a channel is free, a free row of the set costs no more than it pays, and one outside no less
pub record AreTightPrices (rows : List Row) (count : ℕ) (set : ℕ → Bool) (prices : List Charge) : Type 0 where
  pub idle : All (λ p. runs_at rows set p.moment < count → p.amount ≡ 0) prices
  pub taken : (i : ℕ) → i < length rows → (row_at rows i).must ≡ false → set i ≡ true → cost_of prices (row_at rows i) ≤ (row_at rows i).pay
  pub left : (i : ℕ) → i < length rows → (row_at rows i).must ≡ false → set i ≡ false → (row_at rows i).pay ≤ cost_of prices (row_at rows i)

-- prices that prove a set are tight for it
abbrev pub AreProofsTight : Type 0
AreProofsTight = (rows : List Row) (channels : List Bool) (prices : List Charge) (set : ℕ → Bool) → Proves rows channels prices set → AreTightPrices rows (count_of channels) set prices
