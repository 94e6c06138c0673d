-- Private: steps that are just as long as the lengths at their ends differ, and lists of steps.
use Rattle.std.specs.Prelude.{◌≡◌, ℕ, List, Contains, ℤ, ◌+ℤ◌, slice_index_or}
use Rattle.bx_line.specs.Network.{Network}
use Rattle.bx_dist.specs.declared.step.Step.{Step}
use Rattle.bx_dist.specs.declared.step.Step.TheVariants.{Idle}
use Rattle.bx_dist.specs.Residual.{step_from, step_to, step_cost, height_at}
use Rattle.bx_dist.specs.Search.{IsStep}

-- the step is as long as the lengths at its ends differ
abbrev pub IsTight : Network → List ℤ → Step → Type 0
IsTight line lengths step = height_at lengths (step_to line step) ≡ (height_at lengths (step_from line step) +ℤ step_cost line step)

-- the last step to a place, where it has one
abbrev pub last_step : List Step → ℕ → Step
last_step last v = slice_index_or last v (Idle 0)

-- each step of the list names places and rows that there are
abbrev pub AreSteps : Network → List Step → Type 0
AreSteps line steps = (step : Step) → Contains steps step → IsStep line step
