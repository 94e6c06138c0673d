use Rattle.std.proofs.Common.{◌≡◌}
use Rattle.bx_dist.specs.Residual.{ArePotentials}
use Rattle.bx_line.specs.Flows.{IsFlow}
use Rattle.bx_flow.proofs.flowing.sent.Given as goal

abbrev pub invariant-loop : goal.invariant-loop
invariant-loop g l = record { flow : IsFlow l.line l.carried; units : l.carried.units ≡ l.counter; fits : ArePotentials l.line l.carried l.potentials }
