-- What one more channel would add: the most that a lawful set pays, over all sets, as the channels become more.
use Rattle.std.specs.Prelude.{◌≡◌, ℕ, ◌+◌, ◌≤◌, Bool, List}
use Rattle.bx_base.specs.Bookings.{Row, AreBookings, IsLawful, pay_of}
use Rattle.bx_base.specs.Bound.{Charge, sum_of_prices}
use Rattle.bx_base.specs.Channels.{count_of}
use Rattle.bx_planner.specs.Choices.{IsBest}
use Rattle.bx_planner.specs.LeastProofs.{IsLeastProof}

-- the most that a lawful set pays: some lawful set pays so much, and none pays more
pub record IsMostPaid (rows : List Row) (channels : List Bool) (total : ℕ) : Type 0 where
  pub set : ℕ → Bool
  pub lawful : IsLawful rows channels set
  pub pays : pay_of rows set ≡ total
  pub best : IsBest rows channels total

-- one channel more adds the whole sum of the least prices
abbrev pub IsPriceOfChannel : Type 0
IsPriceOfChannel = (rows : List Row) (channels more : List Bool) (prices : List Charge) (set : ℕ → Bool) → AreBookings rows → IsLeastProof rows channels prices set → count_of more ≡ count_of channels + 1 → IsMostPaid rows more (pay_of rows set + sum_of_prices prices)

-- what the second of two more channels adds is no more than what the first adds: c - b is no more than b - a
abbrev pub AreGainsNeverRising : Type 0
AreGainsNeverRising = (rows : List Row) (channels more most : List Bool) (a b c : ℕ) → AreBookings rows → count_of more ≡ count_of channels + 1 → count_of most ≡ count_of channels + 2 → IsMostPaid rows channels a → IsMostPaid rows more b → IsMostPaid rows most c → c + a ≤ b + b
