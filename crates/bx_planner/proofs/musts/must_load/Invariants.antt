use Rattle.std.proofs.Common.{◌≡◌, ℕ, ◌≤◌, ◌&&◌, cond}
use Rattle.bx_base.specs.Sums.{sum_below}
use Rattle.bx_base.specs.Bookings.{row_at, is_running}
use Rattle.bx_colour.specs.Loads.{load_at, size_of}
use Rattle.bx_planner.proofs.musts.must_load.Given as goal

abbrev pub invariant-loop-i : goal.invariant-loop-i
invariant-loop-i l = record {
  each : (t : ℕ) → load_at l.load t ≡ sum_below l.i (λ j. cond ((row_at l.demand j).must && is_running (row_at l.demand j) t) 1 0);
  few : size_of l.load ≤ l.i;
}
