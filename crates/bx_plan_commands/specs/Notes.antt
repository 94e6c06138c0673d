-- The note on accepted bookings that may be too short to be carried on a live line.
use Rattle.std.specs.Prelude.{◌≡◌, ◌⊎◌, ℕ, zero, suc, ◌+◌, ◌==◌, ◌&&◌, ◌||◌, Bool, true, false, List, [], ◌∷◌, ◌++◌, length, codes, decimal, Option, Some, None, slice_index_or, if◌then◌else◌}
use Rattle.std.specs.Io.KnownBytes.{Appends}
use Rattle.std.specs.List.{list_any}
use Rattle.bx_base.specs.Bookings.{Row, row_at}
use Rattle.bx_base.specs.PlanParts.{Parts}
use Rattle.bx_devices.specs.Devices.{Writing}
use Rattle.bx_devices.specs.Octets.{AppendsPrefix}

-- ---- which bookings

-- the channel and the end of a row with this channel, if the plan accepts it
abbrev pub end_on : Option ℕ → Row → List (ℕ × ℕ)
end_on None row = []
end_on (Some channel) row = (channel, row.end) ∷ []

-- those of the accepted ones of the first n rows
abbrev pub ends_below : Parts → ℕ → List (ℕ × ℕ)
ends_below plan zero = []
ends_below plan (suc n) = ends_below plan n ++ end_on (slice_index_or plan.assigned n None) (row_at plan.rows n)

abbrev pub is_end_at : ℕ → ℕ → ℕ × ℕ → Bool
is_end_at channel second end = (end.0 == channel) && (end.1 == second)

-- an accepted row ends on this channel at this second
abbrev pub some_ends : Parts → ℕ → ℕ → Bool
some_ends plan channel second = list_any (is_end_at channel second) (ends_below plan (length plan.rows))

abbrev pub lasts : Row → ℕ → Bool
lasts row seconds = row.end == row.start + seconds

-- a row with this channel, if the plan accepts it, lasts one second; or two, and is inward, begins in second 0, or where another ends
abbrev pub is_short_on : Parts → Option ℕ → Row → Bool
is_short_on plan None row = false
is_short_on plan (Some channel) row = lasts row 1 || (lasts row 2 && (row.inward || (row.start == 0) || some_ends plan channel row.start))

-- the row at i may be too short to be carried on a live line
abbrev pub is_too_short : Parts → ℕ → Bool
is_too_short plan i = is_short_on plan (slice_index_or plan.assigned i None) (row_at plan.rows i)

-- ---- the note

abbrev pub row_text : Bool → ℕ → List ℕ
row_text is_begun row = (if is_begun then 44 ∷ [] else codes "note: rows ") ++ decimal row

-- whether one of the first n rows is to be noted
abbrev pub is_begun : Parts → ℕ → Bool
is_begun plan zero = false
is_begun plan (suc n) = is_begun plan n || is_too_short plan n

-- the prefix of the note, with those of the first n rows that are to be noted
abbrev pub note_below : Parts → ℕ → List ℕ
note_below plan zero = []
note_below plan (suc n) = note_below plan n ++ (if is_too_short plan n then row_text (is_begun plan n) (n + 1) else [])

abbrev pub note_end : Bool → List ℕ
note_end is_begun = if is_begun then codes " may be too short to be carried on a live line\n" else []

-- the whole of it; nothing where no row is to be noted
abbrev pub note_text : Parts → List ℕ
note_text plan = note_below plan (length plan.rows) ++ note_end (is_begun plan (length plan.rows))

-- it was written, or a prefix of it where that failed
abbrev pub IsNoteWritten : Parts → Writing → Type 0
IsNoteWritten plan errors = Appends errors.before errors.after (note_text plan) ⊎ ((errors.is_faulted ≡ true) × AppendsPrefix errors.before errors.after (note_text plan))
