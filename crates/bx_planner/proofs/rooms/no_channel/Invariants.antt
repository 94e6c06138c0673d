use Rattle.std.proofs.Common.{◌≡◌, ℕ, ◌+◌, ◌≤◌, ◌&&◌, cond}
use Rattle.bx_base.specs.Sums.{sum_below}
use Rattle.bx_base.specs.Bookings.{row_at, is_running}
use Rattle.bx_colour.specs.Loads.{load_at, size_of}
use Rattle.bx_planner.proofs.rooms.no_channel.Given as goal

abbrev pub invariant-loop-i : goal.invariant-loop-i
invariant-loop-i l =
    record {
      each : (t : ℕ) → load_at l.load t ≡ sum_below l.i (λ j. cond ((row_at l.bookings j).must && is_running (row_at l.bookings j) t) 1 0) + cond (is_running l.booking t) 1 0;
      few : size_of l.load ≤ l.i + 1;
    }
