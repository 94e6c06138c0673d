use Rattle.std.proofs.Common.{◌-◌, ◌≤◌}
use Rattle.bx_line_world.specs.Seeing.{LookedBy}
use Rattle.bx_line_world.proofs.line.Line.see.Given as goal

abbrev pub invariant-loop-looks : goal.invariant-loop-looks
invariant-loop-looks g l = record {
  few : l.looks ≤ 18446744073709551615;
  so_far : LookedBy g.W.Wire.did l.until l.fn.self l.self l.looks;
}

abbrev pub decreases-loop-looks : goal.decreases-loop-looks
decreases-loop-looks g l = 18446744073709551615 - l.looks
