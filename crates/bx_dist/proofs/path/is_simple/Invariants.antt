use Rattle.std.proofs.Common.{◌↔◌, drop}
use Rattle.bx_dist.specs.Inside.{IsSimple}
use Rattle.bx_dist.proofs.path.is_simple.Given as goal

abbrev pub invariant-loop-i : goal.invariant-loop-i
invariant-loop-i l = (IsSimple l.line l.place (drop l.i l.walk)) ↔ (IsSimple l.line 0 l.walk)
