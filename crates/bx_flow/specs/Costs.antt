-- What flows cost, and flows of least cost.
use Rattle.std.specs.Prelude.{◌≡◌, ℕ, ℤ, pos, neg_ℤ, ◌≤ℤ◌, length, if◌then◌else◌}
use Rattle.bx_base.specs.Sums.{sum_below}
use Rattle.bx_line.specs.Network.{Network, arc_at}
use Rattle.bx_line.specs.Flows.{Flow, IsFlow, carries_unit}

-- what the arcs of the rows that carry a unit pay together
abbrev pub paid_by : Network → Flow → ℕ
paid_by line flow = sum_below (length line.arcs) (λ i. if carries_unit flow i then (arc_at line i).pay else 0)

-- idle arcs cost nothing, and a row's arc costs less by what it pays
abbrev pub flow_cost_of : Network → Flow → ℤ
flow_cost_of line flow = neg_ℤ (pos (paid_by line flow))

-- a flow, and none of as many units costs less
pub record IsLeastCost (line : Network) (flow : Flow) : Type 0 where
  pub is_flow : IsFlow line flow
  pub least : (other : Flow) → IsFlow line other → other.units ≡ flow.units → flow_cost_of line flow ≤ℤ flow_cost_of line other

-- what all rows pay together but the must rows
abbrev pub free_pays : Network → ℕ
free_pays line = sum_below (length line.arcs) (λ i. if (arc_at line i).must then 0 else (arc_at line i).pay)
