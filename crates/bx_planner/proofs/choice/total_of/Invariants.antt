use Rattle.std.proofs.Common.{◌≡◌, ◌≤◌, ◌*◌, cond}
use Rattle.bx_base.specs.Sums.{sum_below}
use Rattle.bx_base.specs.Bookings.{row_at}
use Rattle.bx_colour.specs.Colouring.{is_in}
use Rattle.bx_planner.proofs.choice.total_of.Given as goal

abbrev pub invariant-loop-i : goal.invariant-loop-i
invariant-loop-i l =
    record {
      so_far : l.total ≡ sum_below l.i (λ i. cond (is_in l.accepted i) (row_at l.bookings i).pay 0);
      few : l.total ≤ l.i * 1000000000;
    }
