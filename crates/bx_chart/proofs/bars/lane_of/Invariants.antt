use Rattle.std.proofs.Common.{◌≡◌, ◌≤◌}
use Rattle.bx_chart.specs.Bars.{lane_of}
use Rattle.bx_chart.proofs.bars.lane_of.Given as goal

abbrev pub invariant-loop-number : goal.invariant-loop-number
invariant-loop-number l =
    record {
      so_far : l.lane ≡ lane_of l.channels l.number;
      fits : l.lane ≤ l.number;
    }
