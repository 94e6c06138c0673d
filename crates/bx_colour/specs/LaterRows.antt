-- A law of first-fit colourings.
use Rattle.std.specs.Prelude.{◌≡◌, ℕ, ◌<◌, ◌≤◌, Bool, List, length, Option}
use Rattle.bx_base.specs.Bookings.{Row, row_at}
use Rattle.bx_base.specs.Extending.{Extends, IsSameBooking}
use Rattle.bx_colour.specs.Colouring.{IsFirstFit, is_in}

-- where the first of more rows are those of before, marked as they were, and the others start at moment m or later, the
-- first-fit colouring of all extends the one before from m
abbrev pub AreLaterRowsExtending : Type 0
AreLaterRowsExtending =
    (m : ℕ) (channels : List Bool) (rows : List Row) (accepted : List Bool) (assigned : List (Option ℕ))
    (rows' : List Row) (accepted' : List Bool) (assigned' : List (Option ℕ))
    → IsFirstFit rows channels accepted assigned
    → IsFirstFit rows' channels accepted' assigned'
    → length rows ≤ length rows'
    → ((i : ℕ) → i < length rows → IsSameBooking (row_at rows i) (row_at rows' i))
    → ((i : ℕ) → i < length rows → is_in accepted' i ≡ is_in accepted i)
    → ((i : ℕ) → length rows ≤ i → i < length rows' → m ≤ (row_at rows' i).start)
    → Extends m rows assigned rows' assigned'
