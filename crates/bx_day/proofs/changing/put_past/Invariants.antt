use Rattle.std.proofs.Common.{◌≡◌, take}
use Rattle.bx_day.specs.Changed.{with_past, with_references}
use Rattle.bx_day.proofs.changing.put_past.Given as goal

abbrev pub invariant-loop-index : goal.invariant-loop-index
invariant-loop-index l = l.entries ≡ with_past (take l.index l.before) (with_references (take l.index l.before) l.fn.entries)
