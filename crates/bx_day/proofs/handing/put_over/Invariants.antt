use Rattle.std.proofs.Common.{◌≡◌}
use Rattle.bx_day.specs.HandingInside.{partly_over}
use Rattle.bx_day.proofs.handing.put_over.Given as goal

abbrev pub invariant-loop-index : goal.invariant-loop-index
invariant-loop-index l = l.entries ≡ partly_over l.moment l.base l.index l.left l.fn.entries
