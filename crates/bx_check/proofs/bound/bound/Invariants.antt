use Rattle.std.proofs.Common.{◌≡◌, ◌≤◌, ◌+◌, ◌*◌}
use Rattle.bx_base.specs.Sums.{sum_below}
use Rattle.bx_base.specs.Channels.{count_of}
use Rattle.bx_base.specs.Bookings.{row_at}
use Rattle.bx_base.specs.Bound.{sum_of_prices}
use Rattle.bx_base.specs.Sides.{gain_of, loss_of}
use Rattle.bx_check.proofs.bound.bound.Given as goal

abbrev pub invariant-loop-i : goal.invariant-loop-i
invariant-loop-i l =
    record {
      gained : l.gained ≡ count_of l.fn.channels * sum_of_prices l.prices + sum_below l.i (λ i. gain_of l.prices (row_at l.bookings i));
      lost : l.lost ≡ sum_below l.i (λ i. loss_of l.prices (row_at l.bookings i));
      limit : l.gained ≤ 30 * (32000 * 16000000000000) + l.i * 1000000000;
    }
