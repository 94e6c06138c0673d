use Rattle.std.proofs.Common.{◌↔◌, drop}
use Rattle.bx_dist.specs.Inside.{Avoids}
use Rattle.bx_dist.proofs.path.avoids.Given as goal

abbrev pub invariant-loop-step : goal.invariant-loop-step
invariant-loop-step l = (Avoids l.line l.other l.place (drop l.step-index l.walk)) ↔ (Avoids l.line l.other l.fn.from l.walk)
