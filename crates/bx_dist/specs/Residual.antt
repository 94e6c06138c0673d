-- The residual network of a flow: what one more unit may do, step by step, and what each step costs.
use Rattle.std.specs.Prelude.{◌≡◌, ℕ, ◌+◌, ◌-◌, ◌<◌, ◌≤◌, Bool, true, false, List, length, ℤ, pos, neg_ℤ, nat_abs, ◌+ℤ◌, ◌≤ℤ◌, slice_index_or}
use Rattle.bx_line.specs.declared.arc.Arc.{Arc}
use Rattle.bx_line.specs.Network.{Network, places_of, arc_at}
use Rattle.bx_line.specs.Flows.{Flow, IsSized, carries_unit, idle_at}
use Rattle.bx_dist.specs.declared.part.Part.{Part}
use Rattle.bx_dist.specs.declared.part.Part.TheVariants.{Whole, Free}
use Rattle.bx_dist.specs.declared.step.Step.{Step}
use Rattle.bx_dist.specs.declared.step.Step.TheVariants.{Idle, Back, Take, Give}

-- whether a part of the network has an arc, and its reverse
abbrev pub IsInPart : Part → Arc → Type 0
IsInPart Whole arc = Unit {0}
IsInPart Free arc = arc.must ≡ false

-- the arc of a row, where rows are named from 1
abbrev pub row_arc : Network → ℕ → Arc
row_arc line row = arc_at line (row - 1)

-- there is such a row, and its arc is in the part
pub record HasRow (part : Part) (line : Network) (row : ℕ) : Type 0 where
  pub named : 1 ≤ row
  pub within : row ≤ length line.arcs
  pub in_part : IsInPart part (row_arc line row)

-- the row's arc is in the part, and carries a unit or does not
pub record IsRowAt (part : Part) (line : Network) (flow : Flow) (row : ℕ) (carried : Bool) : Type 0 where
  pub there : HasRow part line row
  pub state : carries_unit flow (row - 1) ≡ carried

-- a step that the residual network has, which is a residual arc: forward, idle to the next place or along the arc of a row that
-- is not carried; and backward, where a unit is idle or along the arc of a row that is carried
abbrev pub IsOpen : Part → Network → Flow → Step → Type 0
IsOpen part line flow (Idle v) = v + 1 < places_of line
IsOpen part line flow (Back v) = (v + 1 < places_of line) × (0 < idle_at flow v)
IsOpen part line flow (Take row) = IsRowAt part line flow row false
IsOpen part line flow (Give row) = IsRowAt part line flow row true

-- where a step begins, where it ends, and what it costs
abbrev pub step_from : Network → Step → ℕ
step_from line (Idle v) = v
step_from line (Back v) = v + 1
step_from line (Take row) = (row_arc line row).from
step_from line (Give row) = (row_arc line row).to

abbrev pub step_to : Network → Step → ℕ
step_to line (Idle v) = v + 1
step_to line (Back v) = v
step_to line (Take row) = (row_arc line row).to
step_to line (Give row) = (row_arc line row).from

abbrev pub step_cost : Network → Step → ℤ
step_cost line (Idle v) = pos 0
step_cost line (Back v) = pos 0
step_cost line (Take row) = neg_ℤ (pos (row_arc line row).pay)
step_cost line (Give row) = pos (row_arc line row).pay

-- a number for each place
abbrev pub height_at : List ℤ → ℕ → ℤ
height_at heights v = slice_index_or heights v (pos 0)

-- no number is beyond what sums of 64 bits can take: each is at most 550,000,000,000,000,000, which is more than an arc to each place can pay
abbrev pub AreSmall : List ℤ → Type 0
AreSmall heights = (v : ℕ) → nat_abs (height_at heights v) ≤ 550000000000000000

-- no step of the residual network has a negative cost once reduced by the heights at its ends: they are feasible potentials
abbrev pub Fits : Part → Network → Flow → List ℤ → Type 0
Fits part line flow heights = (step : Step) → IsOpen part line flow step → height_at heights (step_to line step) ≤ℤ (height_at heights (step_from line step) +ℤ step_cost line step)

-- potentials that fit the whole residual network of a flow, each for one place
pub record ArePotentials (line : Network) (flow : Flow) (heights : List ℤ) : Type 0 where
  pub one_each : length heights ≡ places_of line
  pub sized : IsSized line flow
  pub fits : Fits Whole line flow heights
