-- The day: what has become of each booking, and the channels in maintenance; how it opens.
use Rattle.std.specs.Prelude.{ℕ, ◌+◌, ◌==◌, ◌&&◌, not, Bool, true, false, List, [], ◌∷◌, Option, Some, None, slice_index_or}
use Rattle.std.specs.List.{list_any}
use Rattle.bx_calls.specs.Shared.{no_channel}
use Rattle.bx_channels.specs.Marks.{is_marked}
use Rattle.bx_day.specs.declared.entry.Standing.{Standing}
use Rattle.bx_day.specs.declared.entry.Standing.TheVariants.{Refused, Unoffered, OnCall}
use Rattle.bx_day.specs.declared.entry.Entry.{Entry}
use Rattle.bx_base.specs.Bookings.{Row, no_row}

-- unlinked is the moment after the last second without a link and one more, 0 where there was none
pub record Day : Type 0 where
  pub moment : ℕ
  pub unlinked : ℕ
  pub entries : List Entry
  pub maintenance : List Bool

-- channels in rising order
abbrev pub every_channel : List ℕ
every_channel = 1 ∷ 2 ∷ 3 ∷ 4 ∷ 5 ∷ 6 ∷ 7 ∷ 8 ∷ 9 ∷ 10 ∷ 11 ∷ 12 ∷ 13 ∷ 14 ∷ 15 ∷ 17 ∷ 18 ∷ 19 ∷ 20 ∷ 21 ∷ 22 ∷ 23 ∷ 24 ∷ 25 ∷ 26 ∷ 27 ∷ 28 ∷ 29 ∷ 30 ∷ 31 ∷ []

-- a live booking holds its channel
abbrev pub is_live : Standing → Bool
is_live (OnCall call activity) = true
is_live _ = false

abbrev pub holds : ℕ → Entry → Bool
holds c e = is_live e.standing && (e.channel == c)

abbrev pub is_held : List Entry → ℕ → Bool
is_held entries c = list_any (holds c) entries

-- neither held nor in maintenance
abbrev pub is_free : Day → ℕ → Bool
is_free d c = not (is_held d.entries c) && not (is_marked d.maintenance c)

-- there was no link in the last second
abbrev pub is_back : Day → Bool
is_back d = d.unlinked == d.moment + 1

abbrev pub is_unoffered : Standing → Bool
is_unoffered Unoffered = true
is_unoffered _ = false

abbrev pub no_entry : Entry
no_entry = record { row = 0; reference = 0; booking = no_row; channel = 0; standing = Refused }

abbrev pub entry_at : List Entry → ℕ → Entry
entry_at entries i = slice_index_or entries i no_entry

-- the opening day of a plan
abbrev pub entry_of : ℕ → Row → Option ℕ → Entry
entry_of row booking None = record { row = row; reference = row; booking = booking; channel = 0; standing = Refused }
entry_of row booking (Some c) = record { row = row; reference = row; booking = booking; channel = c; standing = Unoffered }

abbrev pub entries_from : ℕ → List Row → List (Option ℕ) → List Entry
entries_from row [] assigned = []
entries_from row (b ∷ bs) [] = entry_of row b None ∷ entries_from (row + 1) bs []
entries_from row (b ∷ bs) (a ∷ as') = entry_of row b a ∷ entries_from (row + 1) bs as'

abbrev pub opening : List Row → List (Option ℕ) → Day
opening rows assigned = record { moment = 0; unlinked = 0; entries = entries_from 1 rows assigned; maintenance = no_channel }
