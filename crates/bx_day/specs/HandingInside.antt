-- Private: what the functions that hand a day over promise one another.
use Rattle.std.specs.Prelude.{ℕ, zero, suc, ◌-◌, ◌<◌, ◌≤◌, List, [], ◌∷◌, length, Option, None, slice_index_or}
use Rattle.bx_base.specs.Bookings.{Row, row_at}
use Rattle.bx_base.specs.declared.bookings.TheConstants.{MAX_BOOKINGS}
use Rattle.bx_day.specs.declared.entry.Entry.{Entry}
use Rattle.bx_day.specs.declared.entry.Standing.{Standing}
use Rattle.bx_day.specs.Day.{entry_at}
use Rattle.bx_day.specs.Handing.{seat_over, seat_new, IsOverRow, IsOutside}

-- a booking from its parts
abbrev pub entry_from : ℕ → ℕ → Row → ℕ → Standing → Entry
entry_from row reference booking channel standing = record { row = row; reference = reference; booking = booking; channel = channel; standing = standing }

-- what is put over the first k of the new day's bookings
abbrev pub partly_over : ℕ → ℕ → ℕ → List Entry → List Entry → List Entry
partly_over t base zero es ns = ns
partly_over t base (suc k) es [] = []
partly_over t base (suc k) [] (n ∷ ns) = seat_new base n ∷ partly_over t base k [] ns
partly_over t base (suc k) (e ∷ es) (n ∷ ns) = seat_over t e n ∷ partly_over t base k es ns

abbrev pub AreFirst : (t : ℕ) (entries : List Entry) (rows : List Row) (assigned : List (Option ℕ)) → Type 0
AreFirst t entries rows assigned =
    (length entries ≤ length rows)
    × ((i : ℕ) → i < length entries → IsOverRow t (entry_at entries i) (row_at rows i) (slice_index_or assigned i None))

abbrev pub AreOutside : (base : ℕ) (entries : List Entry) → Type 0
AreOutside base entries = (i : ℕ) → i < length entries → IsOutside base (entry_at entries i).reference

abbrev pub AreReady : (base t : ℕ) (entries : List Entry) (rows : List Row) (assigned : List (Option ℕ)) → Type 0
AreReady base t entries rows assigned = (base ≤ 32767 - MAX_BOOKINGS) × AreFirst t entries rows assigned × AreOutside base entries
