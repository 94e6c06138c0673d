-- The least of all price lists that prove a set.
use Rattle.std.specs.Prelude.{◌≡◌, ℕ, ◌≤◌, Bool, List, All}
use Rattle.bx_base.specs.Bookings.{Row}
use Rattle.bx_base.specs.Bound.{Charge, IsPriceList, Proves, sum_of_prices}
use Rattle.bx_check.specs.Before.{sum_before}
use Rattle.bx_line.specs.Moments.{IsMoment}

-- the prices prove the set, stand where rows start and end, and come to no more, before each of these moments and
-- altogether, than any price list that proves the set
pub record IsLeastProof (rows : List Row) (channels : List Bool) (prices : List Charge) (set : ℕ → Bool) : Type 0 where
  pub list : IsPriceList prices
  pub placed : All (λ p. IsMoment rows p.moment) prices
  pub proves : Proves rows channels prices set
  pub before : (other : List Charge) → IsPriceList other → Proves rows channels other set → (moment : ℕ) → IsMoment rows moment → sum_before prices moment ≤ sum_before other moment
  pub whole : (other : List Charge) → IsPriceList other → Proves rows channels other set → sum_of_prices prices ≤ sum_of_prices other

-- two price lists of which each is the least proof of some set are equal
abbrev pub ArePricesUnique : Type 0
ArePricesUnique = (rows : List Row) (channels : List Bool) (a b : List Charge) (s t : ℕ → Bool) → IsLeastProof rows channels a s → IsLeastProof rows channels b t → a ≡ b
