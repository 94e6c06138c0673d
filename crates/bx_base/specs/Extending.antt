-- A plan that goes on from another: bookings that were asked for later, and start later, stand after those of the plan before.
use Rattle.std.specs.Prelude.{◌≡◌, ℕ, ◌<◌, ◌≤◌, List, length, Option, None, slice_index_or}
use Rattle.bx_base.specs.Bookings.{Row, row_at}
use Rattle.bx_base.specs.Plans.{is_accepted}

-- the same booking, but for its mark that it has to be held
pub record IsSameBooking (a b : Row) : Type 0 where
  pub start : b.start ≡ a.start
  pub end : b.end ≡ a.end
  pub pay : b.pay ≡ a.pay
  pub number : b.number ≡ a.number
  pub inward : b.inward ≡ a.inward

-- a plan of these rows and channels (rows', assigned') extends another (rows, assigned) from moment m
pub record Extends (m : ℕ) (rows : List Row) (assigned : List (Option ℕ)) (rows' : List Row) (assigned' : List (Option ℕ)) : Type 0 where
  pub longer : length rows ≤ length rows'
  -- each booking stands in its place
  pub same : (i : ℕ) → i < length rows → IsSameBooking (row_at rows i) (row_at rows' i)
  -- what was accepted stays so, and what was refused
  pub accepted : (i : ℕ) → i < length rows → is_accepted assigned' i ≡ is_accepted assigned i
  -- what starts before m keeps its channel
  pub channels : (i : ℕ) → i < length rows → (row_at rows i).start < m → slice_index_or assigned' i None ≡ slice_index_or assigned i None
  -- new bookings start at m or later
  pub later : (i : ℕ) → length rows ≤ i → i < length rows' → m ≤ (row_at rows' i).start
