-- A channel that is lost: what is to leave it, and what is kept of all that has yet to begin.
use Rattle.std.specs.Prelude.{◌≡◌, ◌≤◌, ◌<◌, ◌+◌, ℕ, Bool, true, List, length, Some, None, slice_index_or}
use Rattle.bx_base.specs.Bookings.{pay_of}
use Rattle.bx_base.specs.Channels.{has_channel}
use Rattle.bx_colour.specs.Colouring.{is_in}
use Rattle.bx_day.specs.Day.{Day, entry_at}
use Rattle.bx_sales.specs.GoingOn.{own_of, FitsBeside}
use Rattle.bx_sales.specs.Leaving.{IsStranded}
use Rattle.bx_sales.specs.Left.{left_in_service}
use Rattle.bx_sales.specs.Selling.{rows_of, marks_of}

-- ---- what is to leave a channel

-- a booking waits on a channel of the set that is lost, and more of it than the next second is left
pub record IsToLeave (channels : List Bool) (d : Day) (i : ℕ) : Type 0 where
  pub stranded : IsStranded d i
  pub in_service : has_channel channels (entry_at d.entries i).channel ≡ true
  pub longer : d.moment + 1 < (entry_at d.entries i).booking.end

pub record IsAnyToLeave (channels : List Bool) (d : Day) : Type 0 where
  pub index : ℕ
  pub is : IsToLeave channels d index

-- ---- what is kept

-- all that has begun, and some of what else was promised, which the channels carry: at no moment more run than there are channels, but for calls that have
-- begun on another channel
pub record MayBeKept (channels before : List Bool) (d : Day) (kept : List Bool) : Type 0 where
  pub one_each : length kept ≡ length d.entries
  pub promised : (i : ℕ) → is_in kept i ≡ true → is_in before i ≡ true
  pub begun : (i c : ℕ) → slice_index_or (own_of d) i None ≡ Some c → is_in kept i ≡ true
  pub fits : FitsBeside channels d (rows_of d) kept

-- no others that may be kept pay more; and where anything to come is kept, the channels carry all that is
pub record IsBestKept (channels before : List Bool) (d : Day) (kept : List Bool) : Type 0 where
  pub one_each : length kept ≡ length d.entries
  pub promised : (i : ℕ) → is_in kept i ≡ true → is_in before i ≡ true
  pub begun : (i c : ℕ) → slice_index_or (own_of d) i None ≡ Some c → is_in kept i ≡ true
  pub fits : (i : ℕ) → slice_index_or (own_of d) i None ≡ None → is_in kept i ≡ true → FitsBeside channels d (rows_of d) kept
  pub best : (other : List Bool) → MayBeKept channels before d other → pay_of (rows_of d) (is_in other) ≤ pay_of (rows_of d) (is_in kept)

-- the channels that are lost were left as a whole, from the day that was shown to this one: nothing has to leave them any more, and of all that was promised
-- what is kept pays most
pub record IsLeftWhole (channels : List Bool) (shown now : Day) : Type 0 where
  pub left : ¬ IsAnyToLeave channels now
  pub best : IsBestKept (left_in_service channels now) (marks_of shown) now (marks_of now)
