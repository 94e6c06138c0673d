-- Laws of potentials that fit a residual network, and of distances.
use Rattle.std.specs.Prelude.{ℕ, List, ℤ, ◌+ℤ◌, ◌≤ℤ◌}
use Rattle.bx_line.specs.Network.{Network, IsNetwork}
use Rattle.bx_line.specs.Flows.{Flow}
use Rattle.bx_dist.specs.declared.part.Part.{Part}
use Rattle.bx_dist.specs.declared.step.Step.{Step}
use Rattle.bx_dist.specs.Residual.{Fits, height_at}
use Rattle.bx_dist.specs.Sending.{sent}
use Rattle.bx_dist.specs.Walks.{Lengths, AreLeast, AreDistances, IsWalk, walk_length}

-- where potentials fit, each walk is at least as long as they differ at its ends
abbrev pub AreWalksLong : Type 0
AreWalksLong =
    (part : Part) (line : Network) (flow : Flow) (heights : List ℤ) (from to : ℕ) (walk : List Step)
    → Fits part line flow heights
    → IsWalk part line flow from to walk
    → height_at heights to ≤ℤ (height_at heights from +ℤ walk_length line walk)

-- distances fit the residual network
abbrev pub AreDistancesFitting : Type 0
AreDistancesFitting =
    (part : Part) (line : Network) (flow : Flow) (lengths : List ℤ)
    → IsNetwork line
    → AreLeast part line flow lengths
    → Fits part line flow lengths

-- they fit it still after a unit took the least walk
abbrev pub AreDistancesFittingAfterUnit : Type 0
AreDistancesFittingAfterUnit =
    (part : Part) (line : Network) (flow : Flow) (d : Lengths)
    → IsNetwork line
    → AreDistances part line flow d
    → Fits part line (sent flow d.walk) d.lengths
