-- Walks in the residual network, and distances: the least lengths of walks from the first place.
use Rattle.std.specs.Prelude.{◌≡◌, ◌≢◌, ℕ, ◌-◌, ◌<◌, List, [], ◌∷◌, length, ℤ, pos, ◌+ℤ◌, ◌≤ℤ◌, AllPairs}
use Rattle.bx_line.specs.Network.{Network, places_of}
use Rattle.bx_line.specs.Flows.{Flow}
use Rattle.bx_dist.specs.declared.part.Part.{Part}
use Rattle.bx_dist.specs.declared.step.Step.{Step}
use Rattle.bx_dist.specs.Residual.{IsOpen, step_from, step_to, step_cost, height_at}

-- steps that lead from one place to another
abbrev pub IsWalk : Part → Network → Flow → ℕ → ℕ → List Step → Type 0
IsWalk part line flow from to [] = from ≡ to
IsWalk part line flow from to (step ∷ walk) = IsOpen part line flow step × (step_from line step ≡ from) × IsWalk part line flow (step_to line step) to walk

-- what the steps of a walk cost together
abbrev pub walk_length : Network → List Step → ℤ
walk_length line [] = pos 0
walk_length line (step ∷ walk) = step_cost line step +ℤ walk_length line walk

-- the places that a walk from here meets
abbrev pub places_met : Network → ℕ → List Step → List ℕ
places_met line from [] = from ∷ []
places_met line from (step ∷ walk) = from ∷ places_met line (step_to line step) walk

-- a walk from the first place to the last that meets no place twice: an augmenting path, along which one more unit can be sent
pub record IsPath (part : Part) (line : Network) (flow : Flow) (walk : List Step) : Type 0 where
  pub some_place : 0 < places_of line
  pub leads : IsWalk part line flow 0 (places_of line - 1) walk
  pub once : AllPairs (λ a b. a ≢ b) (places_met line 0 walk)

-- a number for each place, and a walk
pub record Lengths : Type 0 where
  pub lengths : List ℤ
  pub walk : List Step

abbrev pub lengths_of : List ℤ → List Step → Lengths
lengths_of lengths walk = record { lengths = lengths; walk = walk }

-- each number is the length of a walk from the first place
abbrev pub AreReached : Part → Network → Flow → List ℤ → Type 0
AreReached part line flow lengths = (v : ℕ) → v < places_of line → (walk : List Step) × IsWalk part line flow 0 v walk × (walk_length line walk ≡ height_at lengths v)

-- the distances: each is the length of a walk from the first place, and no walk is shorter
pub record AreLeast (part : Part) (line : Network) (flow : Flow) (lengths : List ℤ) : Type 0 where
  pub one_each : length lengths ≡ places_of line
  pub reached : AreReached part line flow lengths
  pub least : (v : ℕ) (walk : List Step) → v < places_of line → IsWalk part line flow 0 v walk → height_at lengths v ≤ℤ walk_length line walk

-- the distances, and a least walk to the last place that meets no place twice
pub record AreDistances (part : Part) (line : Network) (flow : Flow) (d : Lengths) : Type 0 where
  pub lengths : AreLeast part line flow d.lengths
  pub path : IsPath part line flow d.walk
  pub shortest : walk_length line d.walk ≡ height_at d.lengths (places_of line - 1)
