-- The potentials that a flow begins with.
use Rattle.std.proofs.Common.{ℤ, List}
use Rattle.bx_line.specs.Flows.{Flow, IsFlow}
use Rattle.bx_line.specs.Network.{Network, IsNetwork}
use Rattle.bx_dist.specs.Residual.{ArePotentials}
use Rattle.bx_dist.specs.Walks.{AreLeast}
use Rattle.bx_dist.specs.declared.part.Part.TheVariants.{Whole}
use Rattle.bx_dist.proofs.After.{distances_fit}

-- distances are potentials of their flow
pub first_potentials : (line : Network) (flow : Flow) (lengths : List ℤ) → IsNetwork line → IsFlow line flow → AreLeast Whole line flow lengths → ArePotentials line flow lengths
first_potentials line flow lengths network is_flow least = record { one_each = least.one_each; sized = is_flow.sized; fits = distances_fit Whole line flow lengths network least }
