use Rattle.std.proofs.Common.{◌≡◌, ◌≤◌}
use Rattle.bx_base.specs.PlanParts.{parts_of}
use Rattle.bx_chart.specs.Frames.{must_below}
use Rattle.bx_chart.proofs.frame.must_of.Given as goal

abbrev pub invariant-loop-index : goal.invariant-loop-index
invariant-loop-index l =
    record {
      so_far : l.must ≡ must_below (parts_of l.plan) l.index;
      fits : l.must ≤ l.index;
    }
