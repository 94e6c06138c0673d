use Rattle.std.proofs.Common.{◌≡◌, ◌≤◌, ◌+◌, ◌*◌, ◌++◌}
use Rattle.bx_chart.specs.Bars.{lane_of}
use Rattle.bx_chart.specs.Frames.{lanes_below}
use Rattle.bx_chart.proofs.frame.add_lanes.Given as goal

abbrev pub invariant-loop-number : goal.invariant-loop-number
invariant-loop-number l =
    record {
      so_far : l.picture.text.items ≡ l.fn.picture.text.items ++ lanes_below l.channels l.number;
      down : l.top ≡ 92 + 16 * lane_of l.channels l.number;
      fits : l.top ≤ 92 + 16 * l.number;
    }
