use Rattle.std.proofs.Common.{◌≤◌, ◌<◌, ℕ, None, slice_index_or}
use Rattle.bx_base.specs.Bookings.{row_at}
use Rattle.bx_day.specs.Changed.{IsAhead}
use Rattle.bx_day.proofs.changing.are_ahead.Given as goal

abbrev pub invariant-loop-index : goal.invariant-loop-index
invariant-loop-index l = (i : ℕ) → i < l.index → l.from ≤ i → IsAhead l.moment (row_at l.plan.bookings i) (slice_index_or l.plan.assigned.items i None)
