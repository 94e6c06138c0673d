use Rattle.std.proofs.Common.{◌-◌, ◌≤◌}
use Rattle.bx_line_world.specs.Serving.{Sliced}
use Rattle.bx_line_world.proofs.line.Line.serve.Given as goal

abbrev pub invariant-loop-slices : goal.invariant-loop-slices
invariant-loop-slices g l = record {
  few : l.slices ≤ 18446744073709551615;
  so_far : Sliced g.W.Wire.did l.until l.in_turn l.fn.self l.self l.slices;
}

abbrev pub decreases-loop-slices : goal.decreases-loop-slices
decreases-loop-slices g l = 18446744073709551615 - l.slices
