-- Flows along the line: a number of units, each led from the first place to the last over idle arcs and over the arcs of
-- rows, which take one unit each.
use Rattle.std.specs.Prelude.{◌≡◌, ℕ, ◌+◌, ◌-◌, ◌<◌, ◌&&◌, ◌==◌, Bool, nat_lt, List, length, slice_index, if◌then◌else◌}
use Rattle.bx_channels.specs.Marks.{is_marked}
use Rattle.bx_base.specs.Sums.{sum_below}
use Rattle.bx_line.specs.Network.{Network, places_of, gaps_of, arc_at, spans}

-- which rows carry a unit, how many units are idle in each gap, and how many units there are
pub record Flow : Type 0 where
  pub accepted : List Bool
  pub idle : List ℕ
  pub units : ℕ

-- a flow from its parts
abbrev pub flow_of : List Bool → List ℕ → ℕ → Flow
flow_of accepted idle units = record { accepted = accepted; idle = idle; units = units }

-- whether the row of this index carries a unit
abbrev pub carries_unit : Flow → ℕ → Bool
carries_unit flow i = is_marked flow.accepted i

-- how many idle units cross a gap
abbrev pub idle_at : Flow → ℕ → ℕ
idle_at flow gap = slice_index flow.idle gap

-- units that leave a place
abbrev pub out_of : Network → Flow → ℕ → ℕ
out_of line flow v = (if nat_lt (v + 1) (places_of line) then idle_at flow v else 0) + sum_below (length line.arcs) (λ i. if carries_unit flow i && (arc_at line i).from == v then 1 else 0)

-- units that come into a place
abbrev pub into : Network → Flow → ℕ → ℕ
into line flow v = (if nat_lt 0 v then idle_at flow (v - 1) else 0) + sum_below (length line.arcs) (λ i. if carries_unit flow i && (arc_at line i).to == v then 1 else 0)

-- it says of each row whether it carries a unit, and of each gap how many are idle
pub record IsSized (line : Network) (flow : Flow) : Type 0 where
  pub rows : length flow.accepted ≡ length line.arcs
  pub gaps : length flow.idle ≡ gaps_of line

-- a flow: all units leave the first place and reach the last, and at each other place as many come in as go out
pub record IsFlow (line : Network) (flow : Flow) : Type 0 where
  pub sized : IsSized line flow
  pub leaves : out_of line flow 0 ≡ flow.units
  pub reaches : into line flow (places_of line - 1) ≡ flow.units
  pub kept : (v : ℕ) → 0 < v → v + 1 < places_of line → into line flow v ≡ out_of line flow v

-- how many rows carry a unit over a gap
abbrev pub crossing_at : Network → Flow → ℕ → ℕ
crossing_at line flow gap = sum_below (length line.arcs) (λ i. if carries_unit flow i && spans (arc_at line i) gap then 1 else 0)

-- the same by cuts: all units cross each gap, idle or with a row
pub record CrossesEachGap (line : Network) (flow : Flow) : Type 0 where
  pub sized : IsSized line flow
  pub crosses : (gap : ℕ) → gap + 1 < places_of line → idle_at flow gap + crossing_at line flow gap ≡ flow.units
  pub no_gap : places_of line < 2 → flow.units ≡ 0
