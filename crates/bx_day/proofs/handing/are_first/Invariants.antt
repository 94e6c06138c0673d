use Rattle.std.proofs.Common.{◌<◌, ℕ, None, slice_index_or}
use Rattle.bx_base.specs.Bookings.{row_at}
use Rattle.bx_day.specs.Day.{entry_at}
use Rattle.bx_day.specs.Handing.{IsOverRow}
use Rattle.bx_day.proofs.handing.are_first.Given as goal

abbrev pub invariant-loop-index : goal.invariant-loop-index
invariant-loop-index l = (i : ℕ) → i < l.index → IsOverRow l.moment (entry_at l.left i) (row_at l.plan.bookings i) (slice_index_or l.plan.assigned.items i None)
