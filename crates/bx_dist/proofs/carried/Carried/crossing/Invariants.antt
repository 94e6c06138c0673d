use Rattle.std.proofs.Common.{◌≡◌, ◌≤◌, cond, ◌&&◌}
use Rattle.bx_base.specs.Sums.{sum_below}
use Rattle.bx_line.specs.Network.{arc_at, spans}
use Rattle.bx_line.specs.Flows.{carries_unit}
use Rattle.bx_dist.proofs.carried.Carried.crossing.Given as goal

abbrev pub invariant-loop-i : goal.invariant-loop-i
invariant-loop-i l =
    record {
      so_far : l.count ≡ sum_below l.i (λ i. cond (carries_unit l.self i && spans (arc_at l.line i) l.gap) 1 0);
      few : l.count ≤ l.i;
    }
