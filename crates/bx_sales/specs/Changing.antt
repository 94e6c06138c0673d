-- A booking of the day that is given up, and one that becomes another.
use Rattle.std.specs.Prelude.{◌≡◌, ◌⊎◌, ◌≤◌, ◌<◌, ℕ, ◌-◌, Bool, false, List, length, slice_set}
use Rattle.bx_base.specs.Bookings.{Row}
use Rattle.bx_day.specs.Changed.{IsOverBy}
use Rattle.bx_day.specs.Day.{Day, entry_at}
use Rattle.bx_day.specs.Invariant.{is_refused}
use Rattle.bx_day.specs.declared.entry.Entry.{Entry}
use Rattle.bx_sales.specs.GoingOn.{GoesOnBeside, FitsBeside}
use Rattle.bx_sales.specs.Selling.{rows_of, marks_of}

-- the booking of a row, where rows are named 1, 2, .., is promised
pub record IsPromised (entries : List Entry) (row : ℕ) : Type 0 where
  pub named : 1 ≤ row
  pub inside : row ≤ length entries
  pub accepted : is_refused (entry_at entries (row - 1)).standing ≡ false

-- and its start has come
pub record HasStarted (d : Day) (row : ℕ) : Type 0 where
  pub promised : IsPromised d.entries row
  pub started : (entry_at d.entries (row - 1)).booking.start ≤ d.moment

-- the same marks, but for that of a row
abbrev pub marks_without : Day → ℕ → List Bool
marks_without d row = slice_set (marks_of d) (row - 1) false

-- it may be given up: its start is yet to come
pub record MayBeCancelled (d : Day) (row : ℕ) : Type 0 where
  pub promised : IsPromised d.entries row
  pub ahead : d.moment < (entry_at d.entries (row - 1)).booking.start

-- a booking of a row is given up: all others go on
pub record IsCancelled (channels : List Bool) (row : ℕ) (old new : Day) : Type 0 where
  pub may : MayBeCancelled old row
  pub gone_on : GoesOnBeside channels (rows_of old) (marks_without old row) old new

-- what a booking may become at moment t: one that starts later, where its own start is yet to come; else the same call with another end, or another
-- pay, where both ends are yet to come and the call, where it is over, was so by the new one
pub record HasOtherEnd (t : ℕ) (e : Entry) (new : Row) : Type 0 where
  pub begun : e.booking.start ≤ t
  pub start : new.start ≡ e.booking.start
  pub number : new.number ≡ e.booking.number
  pub inward : new.inward ≡ e.booking.inward
  pub running : t < e.booking.end
  pub later : t < new.end
  pub over : IsOverBy e.standing new.end

abbrev pub MayBecome : ℕ → Entry → Row → Type 0
MayBecome t e new = ((t < e.booking.start) × (t < new.start)) ⊎ HasOtherEnd t e new

-- the bookings with another one in a row
abbrev pub rows_changed_in : List Row → ℕ → Row → List Row
rows_changed_in rows row b = slice_set rows (row - 1) b

-- it may become this one
pub record MayBeChanged (d : Day) (row : ℕ) (b : Row) : Type 0 where
  pub promised : IsPromised d.entries row
  pub may : MayBecome d.moment (entry_at d.entries (row - 1)) b

-- it is promised, and may not
pub record MayNotBecome (d : Day) (row : ℕ) (b : Row) : Type 0 where
  pub promised : IsPromised d.entries row
  pub may_not : ¬ MayBecome d.moment (entry_at d.entries (row - 1)) b

-- all fit on the channels with this one in its place
abbrev pub FitsChanged : List Bool → Day → ℕ → Row → Type 0
FitsChanged channels d row b = FitsBeside channels d (rows_changed_in (rows_of d) row b) (marks_of d)

-- and without it
abbrev pub FitsWithout : List Bool → Day → ℕ → Type 0
FitsWithout channels d row = FitsBeside channels d (rows_of d) (marks_without d row)

-- a booking of a row becomes another one: all go on
pub record IsRowChanged (channels : List Bool) (row : ℕ) (b : Row) (old new : Day) : Type 0 where
  pub may : MayBeChanged old row b
  pub gone_on : GoesOnBeside channels (rows_changed_in (rows_of old) row b) (marks_of old) old new
