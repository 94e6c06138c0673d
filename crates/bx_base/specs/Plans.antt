-- Plans: which rows are accepted, on which channels, and at which prices.
use Rattle.std.specs.Prelude.{◌≡◌, ℕ, ◌<◌, ◌≤◌, ◌-◌, Bool, true, false, List, length, Option, None, is_some, unwrap_or, slice_index_or}
use Rattle.bx_base.specs.Channels.{has_channel}
use Rattle.bx_base.specs.Bookings.{Row, row_at, Overlap}

-- whether a plan accepts the row, and the channel that it gives it
abbrev pub is_accepted : List (Option ℕ) → ℕ → Bool
is_accepted assigned i = is_some (slice_index_or assigned i None)

abbrev pub channel_at : List (Option ℕ) → ℕ → ℕ
channel_at assigned i = unwrap_or (slice_index_or assigned i None) 0

-- an accepted row whose channel is not in service
abbrev pub IsOutOfService : List (Option ℕ) → List Bool → ℕ → Type 0
IsOutOfService assigned channels i = (is_accepted assigned i ≡ true) × (has_channel channels (channel_at assigned i) ≡ false)

-- two accepted rows that overlap on one channel
pub record Clash (rows : List Row) (assigned : List (Option ℕ)) (i j : ℕ) : Type 0 where
  pub first : is_accepted assigned i ≡ true
  pub second : is_accepted assigned j ≡ true
  pub overlap : Overlap (row_at rows i) (row_at rows j)
  pub channel : channel_at assigned i ≡ channel_at assigned j

-- two rows that clash, the first of them before the second, where rows are named 1, 2, ..
abbrev pub AreClashing : List Row → List (Option ℕ) → ℕ × ℕ → Type 0
AreClashing rows assigned named =
    (1 ≤ named.0)
    × (named.0 < named.1)
    × (named.1 ≤ length rows)
    × Clash rows assigned (named.0 - 1) (named.1 - 1)

-- no row before this place clashes with one after it
abbrev pub AreApartBefore : List Row → List (Option ℕ) → ℕ → Type 0
AreApartBefore rows assigned place =
    (i k : ℕ) → i < place → i < k → k < length rows → ¬ Clash rows assigned i k

-- a must row that is not accepted
abbrev pub IsMustLeftOut : List Row → List (Option ℕ) → ℕ → Type 0
IsMustLeftOut rows assigned i = ((row_at rows i).must ≡ true) × (is_accepted assigned i ≡ false)
