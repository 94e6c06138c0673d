use Rattle.std.proofs.Common.{◌≡◌, take}
use Rattle.bx_line_world.specs.Steps.{keeps}
use Rattle.bx_line_world.proofs.line.Line.keep.Given as goal

abbrev pub invariant-loop-one : goal.invariant-loop-one
invariant-loop-one g l = l.self ≡ keeps l.fn.self (take l.one-index l.told)
