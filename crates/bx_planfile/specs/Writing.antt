-- Private: what the lines of a plan are, in parts.
use Rattle.std.specs.Prelude.{◌≡◌, ℕ, List, [], ◌∷◌, codes, decimal, length, map, slice_index_or, Option, Some, None}
use Rattle.std.specs.List.{flat_map}
use Rattle.bx_base.specs.Bookings.{Row}
use Rattle.bx_channels.specs.ChannelNumbers.{IsChannel}
use Rattle.bx_base.specs.declared.plan.Plan.{Plan}
use Rattle.bx_planfile.specs.declared.version.Version.TheVariants.{Three}
use Rattle.bx_text.specs.Lines.{line_text, members_from, named}
use Rattle.bx_planfile.specs.Text.{version_field, booking_lines}

-- channels that bookings have
abbrev pub AreAssigned : List (Option ℕ) → Type 0
AreAssigned assigned = (i c : ℕ) → slice_index_or assigned i None ≡ Some c → IsChannel c

-- the lines before the bookings, and those after the prices
abbrev pub head_lines : Plan → List (List (List ℕ))
head_lines plan = (codes "bx-plan" ∷ version_field Three ∷ []) ∷ (codes "channels" ∷ map decimal (members_from 0 plan.channels)) ∷ named (codes "bookings") (length plan.bookings) ∷ []

abbrev pub foot_lines : Plan → List (List (List ℕ))
foot_lines plan = named (codes "total") plan.total ∷ (codes "end" ∷ []) ∷ []

-- the text of the bookings, each with its channel
abbrev pub rows_text : List Row → List (Option ℕ) → List ℕ
rows_text rows assigned = flat_map line_text (booking_lines Three rows assigned)
