-- Private: bookings of a day in another plan.
use Rattle.std.specs.Prelude.{ℕ, ◌<◌, ◌≤◌, List, length, Option, None, slice_index_or}
use Rattle.bx_base.specs.Bookings.{Row, row_at}
use Rattle.bx_day.specs.Day.{entry_at}
use Rattle.bx_day.specs.Changed.{past_or_planned, IsAhead, AgreesAt, AreReferredByRow}
use Rattle.bx_day.specs.declared.entry.Entry.{Entry}

-- each of these agrees in its place, and new ones may come after them
abbrev pub AgreeInPlace : (t : ℕ) (entries : List Entry) (rows : List Row) (assigned : List (Option ℕ)) → Type 0
AgreeInPlace t entries rows assigned =
    (length entries ≤ length rows)
    × ((i : ℕ) → i < length entries → AgreesAt t (entry_at entries i) (row_at rows i) (slice_index_or assigned i None))
    × (length entries < length rows → AreReferredByRow entries)

-- nothing becomes of those from a place on
abbrev pub AreAheadFrom : (t from : ℕ) (rows : List Row) (assigned : List (Option ℕ)) → Type 0
AreAheadFrom t from rows assigned = (i : ℕ) → from ≤ i → i < length rows → IsAhead t (row_at rows i) (slice_index_or assigned i None)

-- a booking in another plan, with what has become of it, and its reference
abbrev pub changed_to : Entry → Entry → Entry
changed_to e entry = record entry { reference = e.reference; standing = past_or_planned e.standing entry.standing }
