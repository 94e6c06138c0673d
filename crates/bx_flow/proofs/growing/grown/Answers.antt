use Rattle.std.proofs.Common.{◌≡◌, ℤ, List}
use Rattle.bx_line.specs.Flows.{Flow, IsFlow}
use Rattle.bx_line.specs.Network.{Network, IsNetwork}
use Rattle.bx_dist.specs.Residual.{ArePotentials}
use Rattle.bx_dist.specs.Sending.{sent}
use Rattle.bx_dist.specs.Walks.{AreDistances, Lengths}
use Rattle.bx_dist.specs.declared.part.Part.TheVariants.{Whole}
use Rattle.bx_dist.proofs.After.{distances_fit_after}
use Rattle.bx_flow.proofs.growing.grown.Goals as goal

-- and of the flow with one more unit on the least walk
next_potentials : (line : Network) (flow new : Flow) (d : Lengths) (heights : List ℤ) → IsNetwork line → AreDistances Whole line flow d → new ≡ sent flow d.walk → IsFlow line new → heights ≡ d.lengths → ArePotentials line new heights
next_potentials line flow new d heights network distances e is_flow h = record { one_each = rw h distances.lengths.one_each; sized = is_flow.sized; fits = rw (h, e) (distances_fit_after Whole line flow d network distances) }

pub returns-clause-fits : goal.returns-clause-fits
returns-clause-fits g c = next_potentials c.args.line.now c.args.carried.now c.send.new.self c.in_ok-dist.dist c.of.result c.requires.limits c.in_ok-dist.ensures c.send.ensures.sent c.send.ensures.flow c.of.ensures
