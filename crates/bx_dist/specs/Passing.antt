-- Private: a pass along the line on which nothing is carried.
use Rattle.std.specs.Prelude.{◌≡◌, ℕ, ◌<◌, List, length, ℤ, pos, ◌≤ℤ◌}
use Rattle.bx_line.specs.Network.{Network, places_of}
use Rattle.bx_dist.specs.declared.part.Part.TheVariants.{Whole}
use Rattle.bx_dist.specs.declared.step.Step.{Step}
use Rattle.bx_dist.specs.Residual.{IsOpen, height_at, step_from}
use Rattle.bx_dist.specs.Search.{ShortensNothing}
use Rattle.bx_dist.specs.Sending.{empty_flow}
use Rattle.bx_dist.specs.Walks.{AreReached}

-- lengths of walks, none above 0, that no step from the places before one shortens
pub record IsPassed (line : Network) (place : ℕ) (lengths : List ℤ) : Type 0 where
  pub one_each : length lengths ≡ places_of line
  pub reached : AreReached Whole line (empty_flow line) lengths
  pub low : (v : ℕ) → height_at lengths v ≤ℤ pos 0
  pub settled : (step : Step) → IsOpen Whole line (empty_flow line) step → step_from line step < place → ShortensNothing line lengths step
