-- A day that goes on with other bookings: what has begun keeps its channel, and all else is coloured first fit beside it.
use Rattle.std.specs.Prelude.{◌≡◌, ◌≤◌, ◌<◌, ℕ, nat_lt, Bool, true, false, List, length, map, Option, Some, None, if◌then◌else◌}
use Rattle.bx_base.specs.Bookings.{Row, row_at}
use Rattle.bx_colour.specs.Beside.{marks_beside}
use Rattle.bx_colour.specs.ChangedRows.{IsFirstFitAmong, choices_of, AreChoicesIn}
use Rattle.bx_colour.specs.Colouring.{FitsChannels, is_in}
use Rattle.bx_day.specs.Changed.{changed, EndsAlike, IsOverBy}
use Rattle.bx_day.specs.Day.{Day, entry_at, is_unoffered}
use Rattle.bx_day.specs.Invariant.{is_refused}
use Rattle.bx_day.specs.declared.entry.Entry.{Entry}
use Rattle.bx_sales.specs.Changes.{IsChange}

-- it waits for a start that is yet to come, or is refused
abbrev pub is_to_come : ℕ → Entry → Bool
is_to_come t e = if is_unoffered e.standing then nat_lt t e.booking.start else is_refused e.standing

-- what has begun keeps its channel
abbrev pub own_at : ℕ → Entry → Option ℕ
own_at t e = if is_to_come t e then None else Some e.channel

abbrev pub own_of : Day → List (Option ℕ)
own_of d = map (own_at d.moment) d.entries

-- a booking as a row that has begun as it did: the same call, with the same end or one that is yet to come as its own is
pub record IsSameCall (t : ℕ) (e : Entry) (row : Row) : Type 0 where
  pub start : row.start ≡ e.booking.start
  pub end : EndsAlike t e.booking.end row.end
  pub over : IsOverBy e.standing row.end
  pub number : row.number ≡ e.booking.number
  pub inward : row.inward ≡ e.booking.inward

-- rows that leave what has begun as it is; all others that are marked start later
pub record KeepsBegun (d : Day) (rows : List Row) (marks : List Bool) : Type 0 where
  pub longer : length d.entries ≤ length rows
  pub marked : (i : ℕ) → i < length d.entries → is_to_come d.moment (entry_at d.entries i) ≡ false → is_in marks i ≡ true
  pub begun : (i : ℕ) → i < length d.entries → is_to_come d.moment (entry_at d.entries i) ≡ false → IsSameCall d.moment (entry_at d.entries i) (row_at rows i)
  pub ahead : (i : ℕ) → i < length d.entries → is_to_come d.moment (entry_at d.entries i) ≡ true → is_in marks i ≡ true → d.moment < (row_at rows i).start
  pub fresh : (i : ℕ) → length d.entries ≤ i → i < length rows → is_in marks i ≡ true → d.moment < (row_at rows i).start

-- the day goes on with these rows, of which the marked ones are accepted: what has begun on its channel, and all others first fit on these channels
pub record GoesOnBeside (channels : List Bool) (rows : List Row) (marks : List Bool) (old new : Day) : Type 0 where
  pub service : List Bool
  pub choices : AreChoicesIn service (own_of old) channels
  pub assigned : List (Option ℕ)
  pub first_fit : IsFirstFitAmong rows (choices_of (own_of old) channels) marks assigned
  pub keeps : KeepsBegun old rows marks
  pub change : IsChange service old rows assigned
  pub day : new ≡ changed rows assigned old

-- at no moment more of the marked rows run than there are channels, but for calls that have begun on another channel
abbrev pub FitsBeside : List Bool → Day → List Row → List Bool → Type 0
FitsBeside channels d rows marks = FitsChannels rows (marks_beside (own_of d) channels marks) channels
