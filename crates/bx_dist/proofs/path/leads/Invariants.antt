use Rattle.std.proofs.Common.{◌-◌, ◌↔◌, drop}
use Rattle.bx_line.specs.Network.{places_of}
use Rattle.bx_dist.specs.declared.part.Part.TheVariants.{Whole}
use Rattle.bx_dist.specs.Walks.{IsWalk}
use Rattle.bx_dist.proofs.path.leads.Given as goal

abbrev pub invariant-loop-step : goal.invariant-loop-step
invariant-loop-step l = (IsWalk Whole l.line l.carried l.place (places_of l.line - 1) (drop l.step-index l.walk)) ↔ (IsWalk Whole l.line l.carried 0 (places_of l.line - 1) l.walk)
