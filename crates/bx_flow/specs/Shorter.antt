-- Flows along the shorter line that has a place for each count of cliques.
use Rattle.std.specs.Prelude.{ℕ, ℤ, List}
use Rattle.bx_line.specs.Cliques.{AreCliques, IsShortened}
use Rattle.bx_line.specs.Flows.{Flow, IsFlow}
use Rattle.bx_line.specs.Network.{Network, IsNetwork}
use Rattle.bx_dist.specs.Residual.{ArePotentials}

-- a flow along the line of the counts, and potentials that fit it there
pub record FitsShorter (line : Network) (counts : List ℕ) (flow : Flow) (heights : List ℤ) : Type 0 where
  pub cliques : AreCliques line counts
  pub shorter : Network
  pub limits : IsNetwork shorter
  pub shortened : IsShortened line counts shorter
  pub is_flow : IsFlow shorter flow
  pub fits : ArePotentials shorter flow heights
