-- The choice among the bookings of a batch, beside all that is promised.
use Rattle.std.specs.Prelude.{◌≡◌, ◌≤◌, ◌+◌, ◌&&◌, not, ℕ, Bool, true, false, List, [], ◌∷◌, ◌++◌, length, nat_lt, if◌then◌else◌}
use Rattle.bx_base.specs.Bookings.{Row, pay_of}
use Rattle.bx_base.specs.declared.bookings.TheConstants.{MAX_BOOKINGS}
use Rattle.bx_colour.specs.Beside.{counts_on}
use Rattle.bx_colour.specs.Colouring.{is_in}
use Rattle.bx_day.specs.Day.{Day}
use Rattle.bx_day.specs.Invariant.{is_refused}
use Rattle.bx_day.specs.declared.entry.Entry.{Entry}
use Rattle.bx_sales.specs.GoingOn.{own_at, FitsBeside}
use Rattle.bx_sales.specs.Selling.{rows_of, marks_of}

-- it is promised, and counts on these channels: it has not begun by moment t on one that is none of them
abbrev pub is_counted : List Bool → ℕ → Entry → Bool
is_counted channels t e = not (is_refused e.standing) && counts_on channels (own_at t e)

-- the bookings of the entries that pass a test, each as one that every plan has to hold
abbrev pub must_rows : (Entry → Bool) → List Entry → List Row
must_rows test [] = []
must_rows test (e ∷ es) = if test e then record (e.booking) { must = true } ∷ must_rows test es else must_rows test es

-- all that is promised and counts on these channels
abbrev pub promised : List Bool → ℕ → List Entry → List Row
promised channels t es = must_rows (is_counted channels t) es

-- which bookings of a batch are eligible, on a day that has so many by now: each that starts later, while the day has a place for it
abbrev pub eligible_marks : ℕ → ℕ → List Row → List Bool
eligible_marks moment count [] = []
eligible_marks moment count (row ∷ rows) = (nat_lt moment row.start && nat_lt count MAX_BOOKINGS) ∷ eligible_marks moment (if nat_lt moment row.start && nat_lt count MAX_BOOKINGS then count + 1 else count) rows

abbrev pub is_eligible : Day → List Row → ℕ → Bool
is_eligible d batch i = is_in (eligible_marks d.moment (length d.entries) batch) i

-- some of these, which the channels carry beside all that is promised: at no moment more run of both than there are channels, but for calls that have
-- begun on another channel
pub record IsChoice (channels : List Bool) (d : Day) (batch : List Row) (chosen : List Bool) : Type 0 where
  pub one_each : length chosen ≡ length batch
  pub eligible : (i : ℕ) → is_in chosen i ≡ true → is_eligible d batch i ≡ true
  pub fits : FitsBeside channels d (rows_of d ++ batch) (marks_of d ++ chosen)

-- the choice that pays most; where the channels do not even carry what is promised, nothing is chosen
pub record IsBestBatch (channels : List Bool) (d : Day) (batch : List Row) (chosen : List Bool) : Type 0 where
  pub one_each : length chosen ≡ length batch
  pub eligible : (i : ℕ) → is_in chosen i ≡ true → is_eligible d batch i ≡ true
  pub fits : (i : ℕ) → is_in chosen i ≡ true → FitsBeside channels d (rows_of d ++ batch) (marks_of d ++ chosen)
  pub best : (other : List Bool) → IsChoice channels d batch other → pay_of batch (is_in other) ≤ pay_of batch (is_in chosen)

-- the booking has no room beside these: each choice that has all of them leaves it out
abbrev pub HasNoRoom : List Bool → Day → List Row → List Bool → ℕ → Type 0
HasNoRoom channels d batch chosen i = (other : List Bool) → IsChoice channels d batch other → ((j : ℕ) → is_in chosen j ≡ true → is_in other j ≡ true) → is_in other i ≡ false
