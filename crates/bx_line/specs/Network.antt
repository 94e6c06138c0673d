-- The line network of a list of bookings (Carlisle and Lloyd 1995): places at the moments, in rising order, from each
-- place an idle arc to the next, and for each row an arc from its start to its end.
use Rattle.std.specs.Prelude.{◌≡◌, ℕ, ◌+◌, ◌-◌, ◌<◌, ◌≤◌, ◌&&◌, Bool, false, nat_le, nat_lt, List, length, slice_index, slice_index_or, if◌then◌else◌}
use Rattle.std.specs.List.Sorted.{IsStrictlyIncreasing}
use Rattle.bx_base.specs.Bookings.{Row, row_at}
use Rattle.bx_line.specs.declared.arc.Arc.{Arc}
use Rattle.bx_line.specs.declared.line.TheConstants.{MAX_ARC_PAY, MAX_PLACES, MUST_RAISE}
use Rattle.bx_base.specs.declared.booking.TheConstants.{MAX_MOMENT}
use Rattle.bx_base.specs.declared.bookings.TheConstants.{MAX_BOOKINGS}

-- the moments of the places, and the arcs of the rows
pub record Network : Type 0 where
  pub moments : List ℕ
  pub arcs : List Arc

-- a line from its parts
abbrev pub network_of : List ℕ → List Arc → Network
network_of moments arcs = record { moments = moments; arcs = arcs }

-- how many places there are, which are the nodes of the network: they are counted from 0
abbrev pub places_of : Network → ℕ
places_of line = length line.moments

-- how many gaps lie between neighbouring places: gap v lies between place v and place v + 1
abbrev pub gaps_of : Network → ℕ
gaps_of line = places_of line - 1

-- what stands in place of an arc beyond the last one
abbrev pub no_arc : Arc
no_arc = record { from = 0; to = 0; pay = 0; must = false }

-- the arc of this index, counted from 0
abbrev pub arc_at : Network → ℕ → Arc
arc_at line i = slice_index_or line.arcs i no_arc

-- whether an arc leads over a gap
abbrev pub spans : Arc → ℕ → Bool
spans arc gap = nat_le arc.from gap && nat_lt gap arc.to

-- what a must row's arc pays more, which is beyond what all other rows can pay together
abbrev pub must_raise : ℕ
must_raise = MUST_RAISE

-- what the arc of a row pays
abbrev pub arc_pay : Row → ℕ
arc_pay row = if row.must then row.pay + must_raise else row.pay

-- the arc leads from the row's start to its end
pub record IsArcOf (moments : List ℕ) (row : Row) (arc : Arc) : Type 0 where
  pub from_within : arc.from < length moments
  pub to_within : arc.to < length moments
  pub from : slice_index moments arc.from ≡ row.start
  pub to : slice_index moments arc.to ≡ row.end
  pub pay : arc.pay ≡ arc_pay row
  pub must : arc.must ≡ row.must

-- an arc for each row
pub record AreArcsOf (moments : List ℕ) (rows : List Row) (arcs : List Arc) : Type 0 where
  pub one_each : length arcs ≡ length rows
  pub each : (i : ℕ) → i < length rows → IsArcOf moments (row_at rows i) (slice_index_or arcs i no_arc)

-- an arc leads to a later place, and pays something, in limits
pub record IsArc (places : ℕ) (arc : Arc) : Type 0 where
  pub rising : arc.from < arc.to
  pub within : arc.to < places
  pub some_pay : 1 ≤ arc.pay
  pub pay_limit : arc.pay ≤ MAX_ARC_PAY

-- the limits of a line
pub record IsNetwork (line : Network) : Type 0 where
  pub few_places : places_of line ≤ MAX_PLACES
  pub two_ends : 0 < places_of line → 2 ≤ places_of line
  pub few_rows : length line.arcs ≤ MAX_BOOKINGS
  pub rising : IsStrictlyIncreasing line.moments
  pub in_day : (v : ℕ) → v < places_of line → slice_index line.moments v ≤ MAX_MOMENT
  pub arcs : (i : ℕ) → i < length line.arcs → IsArc (places_of line) (arc_at line i)
