use Rattle.std.proofs.Common.{ℕ, ◌<◌}
use Rattle.bx_base.specs.Bookings.{row_at}
use Rattle.bx_sales.proofs.selling_all.are_later.Given as goal

abbrev pub invariant-loop-index : goal.invariant-loop-index
invariant-loop-index l = (i : ℕ) → i < l.index → l.moment < (row_at l.rows i).start
