use Rattle.std.proofs.Common.{◌-◌, ◌≤◌}
use Rattle.bx_line_world.specs.Steps.{PolledBy}
use Rattle.bx_line_world.proofs.line.Line.poll.Given as goal

abbrev pub invariant-loop-frames : goal.invariant-loop-frames
invariant-loop-frames g l = record {
  few : l.frames ≤ 64;
  so_far : PolledBy g.W.Wire.did l.frames l.fn.self l.self;
}

abbrev pub decreases-loop-frames : goal.decreases-loop-frames
decreases-loop-frames g l = 64 - l.frames
