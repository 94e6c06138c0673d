-- The text of a plan.
use Rattle.std.specs.Prelude.{◌≡◌, ℕ, ◌<◌, List, [], ◌∷◌, ◌++◌, Bool, false, Option, Some, None, length, map, codes, decimal, if◌then◌else◌}
use Rattle.std.specs.List.{flat_map, zip}
use Rattle.bx_base.specs.Bookings.{Row, row_at}
use Rattle.bx_base.specs.Bound.{Charge}
use Rattle.bx_base.specs.PlanParts.{Parts}
use Rattle.bx_planfile.specs.declared.version.Version.{Version}
use Rattle.bx_planfile.specs.declared.version.Version.TheVariants.{One, Two, Three}
use Rattle.bx_text.specs.Lines.{line_text, members_from, named}

abbrev pub version_field : Version → List ℕ
version_field One = codes "1"
version_field Two = codes "2"
version_field Three = codes "3"

-- the channel of an accepted booking, and a dash for another
abbrev pub channel_field : Option ℕ → List ℕ
channel_field None = codes "-"
channel_field (Some channel) = decimal channel

abbrev pub must_field : Bool → List ℕ
must_field must = if must then codes "must" else codes "free"

abbrev pub direction_field : Bool → List ℕ
direction_field inward = if inward then codes "in" else codes "out"

-- what the later versions add to a booking's line
abbrev pub mark_fields : Version → Row → List (List ℕ)
mark_fields One row = []
mark_fields Two row = must_field row.must ∷ []
mark_fields Three row = must_field row.must ∷ direction_field row.inward ∷ []

abbrev pub booking_fields : Version → Row → Option ℕ → List (List ℕ)
booking_fields version row channel =
    decimal row.start ∷ decimal row.end ∷ decimal row.pay ∷ row.number ∷ channel_field channel ∷ mark_fields version row

abbrev pub price_fields : Charge → List (List ℕ)
price_fields price = decimal price.moment ∷ decimal price.amount ∷ []

-- the lines of bookings
abbrev pub booking_lines : Version → List Row → List (Option ℕ) → List (List (List ℕ))
booking_lines version rows assigned = map (λ entry. booking_fields version entry.0 entry.1) (zip rows assigned)

-- the lines of a plan
abbrev pub plan_lines : Version → Parts → List (List (List ℕ))
plan_lines version parts =
    (codes "bx-plan" ∷ version_field version ∷ [])
    ∷ (codes "channels" ∷ map decimal (members_from 0 parts.channels))
    ∷ named (codes "bookings") (length parts.rows)
    ∷ (booking_lines version parts.rows parts.assigned
    ++ (named (codes "prices") (length parts.prices)
    ∷ (map price_fields parts.prices
    ++ (named (codes "total") parts.total ∷ (codes "end" ∷ []) ∷ []))))

-- the text of a plan in a version
abbrev pub plan_text : Version → Parts → List ℕ
plan_text version parts = flat_map line_text (plan_lines version parts)

-- a row that a version can tell: the first knows no must rows, and the first two no inward ones
abbrev pub IsTellable : Version → Row → Type 0
IsTellable One row = (row.must ≡ false) × (row.inward ≡ false)
IsTellable Two row = row.inward ≡ false
IsTellable Three row = Unit {0}

-- a plan that has a text in a version
abbrev pub HasText : Version → Parts → Type 0
HasText version parts = (i : ℕ) → i < length parts.rows → IsTellable version (row_at parts.rows i)

-- the octets are the plan's text in one of the versions
abbrev pub IsTextOf : List ℕ → Parts → Type 0
IsTextOf bytes parts = (version : Version) × HasText version parts × (bytes ≡ plan_text version parts)
