-- Chains of the rows that start at each place, or end there.
use Rattle.std.specs.Prelude.{◌≡◌, ◌≢◌, ℕ, ◌+◌, ◌<◌, ◌≤◌, List, length, Option, Some, None, slice_index_or}
use Rattle.bx_line.specs.declared.arc.Arc.{Arc}
use Rattle.bx_line.specs.declared.incidence.Incidence.{Incidence}
use Rattle.bx_line.specs.declared.incidence.Incidence.TheVariants.{Leaving, Arriving}
use Rattle.bx_line.specs.Network.{no_arc, Network, IsNetwork, places_of}
use Rattle.bx_line.specs.declared.by_place.ByPlace.{ByPlace}

-- the place of an arc on a side
abbrev pub place_on : Incidence → Arc → ℕ
place_on Leaving arc = arc.from
place_on Arriving arc = arc.to

-- the place of the row of this index on a side
abbrev pub row_place : Incidence → List Arc → ℕ → ℕ
row_place side arcs k = place_on side (slice_index_or arcs k no_arc)

-- the first row of a place on a side among those from an index on, where there is one
pub record IsFirstRow (side : Incidence) (arcs : List Arc) (place least : ℕ) (row : Option ℕ) : Type 0 where
  pub none : row ≡ None → (k : ℕ) → least ≤ k → k < length arcs → row_place side arcs k ≢ place
  pub there : (r : ℕ) → row ≡ Some r → (least ≤ r) × (r < length arcs) × (row_place side arcs r ≡ place)
  pub before : (r : ℕ) → row ≡ Some r → (k : ℕ) → least ≤ k → k < r → row_place side arcs k ≢ place

-- the first row in a list of such
abbrev pub row_in : List (Option ℕ) → ℕ → Option ℕ
row_in rows k = slice_index_or rows k None

-- the first row of each place on a side, and for each row the next one of the same place
pub record AreChains (side : Incidence) (arcs : List Arc) (places : ℕ) (first next : List (Option ℕ)) : Type 0 where
  pub first_each : length first ≡ places
  pub next_each : length next ≡ length arcs
  pub begins : (v : ℕ) → v < places → IsFirstRow side arcs v 0 (row_in first v)
  pub goes_on : (r : ℕ) → r < length arcs → IsFirstRow side arcs (row_place side arcs r) (r + 1) (row_in next r)

-- a line with the chains of its rows, by where they start and by where they end
abbrev pub IsChained : Network → ByPlace → ByPlace → Type 0
IsChained line leaving arriving =
    IsNetwork line
    × AreChains Leaving line.arcs (places_of line) leaving.first.items leaving.next.items
    × AreChains Arriving line.arcs (places_of line) arriving.first.items arriving.next.items
