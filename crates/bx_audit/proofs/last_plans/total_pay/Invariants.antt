use Rattle.std.proofs.Common.{◌≡◌, ◌≤◌, ◌*◌, if◌then◌else◌}
use Rattle.bx_base.specs.Sums.{sum_below}
use Rattle.bx_base.specs.Bookings.{row_at}
use Rattle.bx_base.specs.Plans.{is_accepted}
use Rattle.bx_audit.proofs.last_plans.total_pay.Given as goal

abbrev pub invariant-loop-i : goal.invariant-loop-i
invariant-loop-i l = record { so_far : l.total ≡ sum_below l.i (λ i. if is_accepted l.assigned i then (row_at l.rows i).pay else 0); limit : l.total ≤ l.i * 1000000000 }
