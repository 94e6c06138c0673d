-- Private: what its functions promise one another.
use Rattle.std.specs.Prelude.{◌≡◌, ℕ, ◌+◌, ◌-◌, ◌<◌, ◌≤◌, true, false, List, length, ℤ, pos, ◌+ℤ◌, ◌-ℤ◌, ◌≤ℤ◌, ◌≢◌, [], ◌∷◌}
use Rattle.bx_line.specs.Network.{Network}
use Rattle.bx_line.specs.Flows.{Flow, carries_unit, idle_at}
use Rattle.bx_dist.specs.declared.step.Step.{Step}
use Rattle.bx_dist.specs.declared.step.Step.TheVariants.{Idle, Back, Take, Give}
use Rattle.bx_dist.specs.Residual.{row_arc, height_at, step_to}
use Rattle.bx_dist.specs.Sending.{after_step}

-- what fitting says of a row, and of a gap
pub record RowFits (line : Network) (flow : Flow) (heights : List ℤ) (row : ℕ) : Type 0 where
  pub onward : carries_unit flow (row - 1) ≡ false → height_at heights (row_arc line row).to ≤ℤ (height_at heights (row_arc line row).from -ℤ pos (row_arc line row).pay)
  pub back : carries_unit flow (row - 1) ≡ true → height_at heights (row_arc line row).from ≤ℤ (height_at heights (row_arc line row).to +ℤ pos (row_arc line row).pay)

pub record GapFits (flow : Flow) (heights : List ℤ) (v : ℕ) : Type 0 where
  pub onward : height_at heights (v + 1) ≤ℤ height_at heights v
  pub back : 0 < idle_at flow v → height_at heights v ≤ℤ height_at heights (v + 1)

-- the walk from here does not meet a place
abbrev pub Avoids : Network → ℕ → ℕ → List Step → Type 0
Avoids line x from [] = x ≢ from
Avoids line x from (step ∷ walk) = (x ≢ from) × Avoids line x (step_to line step) walk

-- the walk from here meets no place twice
abbrev pub IsSimple : Network → ℕ → List Step → Type 0
IsSimple line from [] = Unit {0}
IsSimple line from (step ∷ walk) = Avoids line from (step_to line step) walk × IsSimple line (step_to line step) walk

-- the flow has what the step changes, with room for one more idle unit
abbrev pub CanTake : Flow → Step → Type 0
CanTake flow (Idle v) = (v < length flow.idle) × (idle_at flow v < 255)
CanTake flow (Back v) = (v < length flow.idle) × (0 < idle_at flow v)
CanTake flow (Take row) = (1 ≤ row) × (row ≤ length flow.accepted)
CanTake flow (Give row) = (1 ≤ row) × (row ≤ length flow.accepted)

-- the same of each step in turn
abbrev pub CanTakeAll : Flow → List Step → Type 0
CanTakeAll flow [] = Unit {0}
CanTakeAll flow (step ∷ walk) = CanTake flow step × CanTakeAll (after_step flow step) walk
