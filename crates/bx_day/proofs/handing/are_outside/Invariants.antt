use Rattle.std.proofs.Common.{◌<◌, ℕ}
use Rattle.bx_day.specs.Day.{entry_at}
use Rattle.bx_day.specs.Handing.{IsOutside}
use Rattle.bx_day.proofs.handing.are_outside.Given as goal

abbrev pub invariant-loop-index : goal.invariant-loop-index
invariant-loop-index l = (i : ℕ) → i < l.index → IsOutside l.base (entry_at l.left i).reference
