use Rattle.std.proofs.Common.{◌≡◌, take}
use Rattle.bx_day.specs.Day.{entries_from}
use Rattle.bx_day.proofs.opening.entries.Given as goal

abbrev pub invariant-loop-i : goal.invariant-loop-i
invariant-loop-i l = l.entries.items ≡ take l.i (entries_from 1 l.plan.bookings l.plan.assigned.items)
