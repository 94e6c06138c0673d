-- Private: places that are reached by the steps from settled ones.
use Rattle.std.specs.Prelude.{◌≡◌, ◌≢◌, ℕ, ◌<◌, List, length, ℤ, pos, ◌-ℤ◌, ◌≤ℤ◌, ◌⊎◌, slice_index}
use Rattle.bx_line.specs.Network.{Network, places_of}
use Rattle.bx_line.specs.Flows.{Flow}
use Rattle.bx_dist.specs.declared.part.Part.{Part}
use Rattle.bx_dist.specs.declared.step.Step.{Step}
use Rattle.bx_dist.specs.Residual.{IsOpen, height_at, step_from, step_to}
use Rattle.bx_dist.specs.Walks.{IsWalk, walk_length}
use Rattle.bx_dist.specs.Search.{ShortensNothing}
use Rattle.bx_dist.specs.Tight.{IsTight, last_step}

-- the length of a place above its height
abbrev pub reduced : List ℤ → List ℤ → ℕ → ℤ
reduced heights lengths v = height_at lengths v -ℤ height_at heights v

-- a tight open step to the place, from a settled one that was settled earlier if the place is settled
pub record IsLast (part : Part) (line : Network) (flow : Flow) (lengths : List ℤ) (ranks : List ℕ) (v : ℕ) (step : Step) : Type 0 where
  pub is_open : IsOpen part line flow step
  pub to : step_to line step ≡ v
  pub tight : IsTight line lengths step
  pub from : 0 < slice_index ranks (step_from line step)
  pub earlier : 0 < slice_index ranks v → slice_index ranks (step_from line step) < slice_index ranks v

-- lengths of walks to the places that are reached (the others have 1), the settled ones no higher than the level, the others no
-- lower and in wait; each step from a settled place was taken, but for those that are left
pub record IsFront (part : Part) (line : Network) (flow : Flow) (heights lengths : List ℤ) (last : List Step) (ranks : List ℕ) (level : ℤ) (Waits : ℕ → Type 0) (Left : Step → Type 0) : Type 0 where
  pub lengths_each : length lengths ≡ places_of line
  pub last_each : length last ≡ places_of line
  pub ranks_each : length ranks ≡ places_of line
  pub low : (v : ℕ) → height_at lengths v ≤ℤ pos 1
  pub reached : (v : ℕ) → v < places_of line → height_at lengths v ≤ℤ pos 0 → (walk : List Step) × IsWalk part line flow 0 v walk × (walk_length line walk ≡ height_at lengths v)
  pub by : (v : ℕ) → v ≢ 0 → v < places_of line → height_at lengths v ≤ℤ pos 0 → IsLast part line flow lengths ranks v (last_step last v)
  pub settled : (v : ℕ) → 0 < slice_index ranks v → (height_at lengths v ≤ℤ pos 0) × (reduced heights lengths v ≤ℤ level)
  pub ahead : (v : ℕ) → v < places_of line → height_at lengths v ≤ℤ pos 0 → slice_index ranks v ≡ 0 → level ≤ℤ reduced heights lengths v
  pub waits : (v : ℕ) → v < places_of line → height_at lengths v ≤ℤ pos 0 → slice_index ranks v ≡ 0 → Waits v
  pub taken : (step : Step) → IsOpen part line flow step → 0 < slice_index ranks (step_from line step) → Left step ⊎ ShortensNothing line lengths step
