-- Bookings, sets of them, and what it means that channels can carry a set (Carlisle and Lloyd 1995: a
-- k-colourable set of intervals).
use Rattle.std.specs.Prelude.{◌≡◌, ◌≢◌, ℕ, ◌<◌, ◌≤◌, ◌&&◌, Bool, true, false, List, [], length, nat_le, nat_lt, slice_index_or, if◌then◌else◌}
use Rattle.bx_base.specs.Sums.{sum_below}
use Rattle.bx_base.specs.Channels.{has_channel}
use Rattle.bx_channels.specs.Numbers.{IsNumber}
use Rattle.bx_base.specs.declared.booking.TheConstants.{MAX_MOMENT, MAX_PAY}
use Rattle.bx_base.specs.declared.bookings.TheConstants.{MAX_BOOKINGS}

-- a booking, with no word on how it lies in memory
pub record Row : Type 0 where
  pub start : ℕ
  pub end : ℕ
  pub pay : ℕ
  pub number : List ℕ
  pub must : Bool
  pub inward : Bool

-- the limits of a booking
pub record IsBooking (row : Row) : Type 0 where
  pub in_order : row.start < row.end
  pub in_day : row.end ≤ MAX_MOMENT
  pub paid : 1 ≤ row.pay
  pub pay_limit : row.pay ≤ MAX_PAY
  pub number : IsNumber row.number

-- what stands in place of a row beyond the last one
abbrev pub no_row : Row
no_row = record { start = 0; end = 0; pay = 0; number = []; must = false; inward = false }

-- the row of this index, counted from 0
abbrev pub row_at : List Row → ℕ → Row
row_at rows i = slice_index_or rows i no_row

-- whether the booking runs at a moment
abbrev pub is_running : Row → ℕ → Bool
is_running row moment = nat_le row.start moment && nat_lt moment row.end

-- some moment has both of them running
abbrev pub Overlap : Row → Row → Type 0
Overlap a b = (moment : ℕ) × (is_running a moment ≡ true) × (is_running b moment ≡ true)

-- the assignment gives each row of the set a channel, and rows that overlap different ones
pub record Carries (rows : List Row) (channels : List Bool) (set : ℕ → Bool) (assignment : ℕ → ℕ) : Type 0 where
  pub in_service : (i : ℕ) → i < length rows → set i ≡ true → has_channel channels (assignment i) ≡ true
  pub apart : (i j : ℕ) → i < j → j < length rows → set i ≡ true → set j ≡ true → Overlap (row_at rows i) (row_at rows j) → assignment i ≢ assignment j

-- a set of rows that these channels can carry: intervals that are k-colourable, where k is the number of the channels
abbrev pub IsCarried : List Row → List Bool → (ℕ → Bool) → Type 0
IsCarried rows channels set = (assignment : ℕ → ℕ) × Carries rows channels set assignment

-- a carried set that has every must row, of which each is mandatory: a feasible choice
pub record IsLawful (rows : List Row) (channels : List Bool) (set : ℕ → Bool) : Type 0 where
  pub carried : IsCarried rows channels set
  pub has_musts : (i : ℕ) → i < length rows → (row_at rows i).must ≡ true → set i ≡ true

-- what the rows of a set pay together
abbrev pub pay_of : List Row → (ℕ → Bool) → ℕ
pay_of rows set = sum_below (length rows) (λ i. if set i then (row_at rows i).pay else 0)

-- a booking from its parts
abbrev pub row_of : ℕ → ℕ → ℕ → List ℕ → Bool → Bool → Row
row_of start end pay number must inward = record { start = start; end = end; pay = pay; number = number; must = must; inward = inward }

-- the bookings of a day: each within its limits, and no more than a day may have
pub record AreBookings (rows : List Row) : Type 0 where
  pub few : length rows ≤ MAX_BOOKINGS
  pub each : (i : ℕ) → i < length rows → IsBooking (row_at rows i)
