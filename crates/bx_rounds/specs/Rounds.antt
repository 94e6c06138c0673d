-- Private: lists of the open steps, places that tight steps reach, and a circle.
use Rattle.std.specs.Prelude.{◌≡◌, ◌≢◌, ℕ, ◌+◌, ◌-◌, ◌<◌, ◌≤◌, nat_lt, if◌then◌else◌, List, [], ◌∷◌, length, Contains, ℤ, slice_index, AllPairs, ◌⊎◌}
use Rattle.bx_base.specs.Sums.{sum_below}
use Rattle.bx_line.specs.Network.{Network, places_of}
use Rattle.bx_line.specs.Flows.{Flow}
use Rattle.bx_dist.specs.declared.part.Part.{Part}
use Rattle.bx_dist.specs.declared.step.Step.{Step}
use Rattle.bx_dist.specs.declared.step.Step.TheVariants.{Idle, Back, Take, Give}
use Rattle.bx_dist.specs.Residual.{IsOpen, step_from, step_to}
use Rattle.bx_dist.specs.Walks.{places_met}
use Rattle.bx_dist.specs.Tight.{IsTight, last_step}

-- the list has just the steps that are open
pub record AreOpenSteps (part : Part) (line : Network) (flow : Flow) (steps : List Step) : Type 0 where
  pub open_alone : (step : Step) → Contains steps step → IsOpen part line flow step
  pub all : (step : Step) → IsOpen part line flow step → Contains steps step

-- the list has just the open steps from the places below v to the next, and those of the first n rows
pub record ListsOpenSteps (part : Part) (line : Network) (flow : Flow) (v n : ℕ) (steps : List Step) : Type 0 where
  pub open_alone : (step : Step) → Contains steps step → IsOpen part line flow step
  pub idle : (u : ℕ) → u + 1 < v → IsOpen part line flow (Idle u) → Contains steps (Idle u)
  pub back : (u : ℕ) → u + 1 < v → IsOpen part line flow (Back u) → Contains steps (Back u)
  pub take : (row : ℕ) → row ≤ n → IsOpen part line flow (Take row) → Contains steps (Take row)
  pub give : (row : ℕ) → row ≤ n → IsOpen part line flow (Give row) → Contains steps (Give row)

-- the list gains the step, where it is open
pub record AddsOpen (part : Part) (line : Network) (flow : Flow) (step : Step) (old new : List Step) : Type 0 where
  pub kept : (s : Step) → Contains old s → Contains new s
  pub added : IsOpen part line flow step → Contains new step
  pub open_alone : ((s : Step) → Contains old s → IsOpen part line flow s) → (s : Step) → Contains new s → IsOpen part line flow s

-- tight steps from a list that lead from one place to another
abbrev pub IsTightWalk : Network → List Step → List ℤ → ℕ → ℕ → List Step → Type 0
IsTightWalk line steps lengths from to [] = from ≡ to
IsTightWalk line steps lengths from to (step ∷ walk) = Contains steps step × IsTight line lengths step × (step_from line step ≡ from) × IsTightWalk line steps lengths (step_to line step) to walk

-- a tight step from the list that leads to the place from one with a lower rank
pub record IsLastStep (line : Network) (steps : List Step) (lengths : List ℤ) (ranks : List ℕ) (v : ℕ) (step : Step) : Type 0 where
  pub there : Contains steps step
  pub tight : IsTight line lengths step
  pub to : step_to line step ≡ v
  pub reached : 0 < slice_index ranks (step_from line step)
  pub earlier : slice_index ranks (step_from line step) < slice_index ranks v

-- places that tight steps from the list reach, each by its last step, from a place that was reached before it
pub record AreMarks (line : Network) (steps : List Step) (lengths : List ℤ) (ranks : List ℕ) (last : List Step) (count : ℕ) : Type 0 where
  pub ranks_each : length ranks ≡ places_of line
  pub last_each : length last ≡ places_of line
  pub first : 0 < slice_index ranks 0
  pub counted : count ≡ sum_below (places_of line) (λ v. if nat_lt 0 (slice_index ranks v) then 1 else 0)
  pub low : (v : ℕ) → slice_index ranks v ≤ count
  pub by : (v : ℕ) → v ≢ 0 → 0 < slice_index ranks v → IsLastStep line steps lengths ranks v (last_step last v)

-- tight steps from the list lead from the first place there
abbrev pub Reaches : Network → List Step → List ℤ → ℕ → Type 0
Reaches line steps lengths v = (walk : List Step) × IsTightWalk line steps lengths 0 v walk

-- where the step is tight and begins at a place that was reached, its end was reached too
abbrev pub ExtendsWalk : Network → List ℤ → List ℕ → Step → Type 0
ExtendsWalk line lengths ranks step = IsTight line lengths step → 0 < slice_index ranks (step_from line step) → 0 < slice_index ranks (step_to line step)

-- a walk of tight steps from the list to the last place that meets no place twice
pub record IsFoundWalk (line : Network) (steps : List Step) (lengths : List ℤ) (walk : List Step) : Type 0 where
  pub leads : IsTightWalk line steps lengths 0 (places_of line - 1) walk
  pub once : AllPairs (λ a b. a ≢ b) (places_met line 0 walk)
  pub few : length walk ≤ places_of line

-- the next place in a circle of so many
abbrev pub IsNextOnCircle : ℕ → ℕ → ℕ → Type 0
IsNextOnCircle at size next = ((at + 1 < size) × (next ≡ at + 1)) ⊎ ((size ≤ at + 1) × (next ≡ 0))
