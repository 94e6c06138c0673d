use Rattle.std.proofs.Common.{◌≡◌, ◌++◌, drop}
use Rattle.bx_day.specs.Handing.{left_over}
use Rattle.bx_day.proofs.handing.left_over.Given as goal

abbrev pub invariant-loop-index : goal.invariant-loop-index
invariant-loop-index l = l.kept.items ++ left_over l.moment (drop l.index l.entries) ≡ left_over l.moment l.entries
