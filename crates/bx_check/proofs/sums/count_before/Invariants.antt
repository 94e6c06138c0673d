use Rattle.std.proofs.Common.{◌-◌, ◌≤◌, ◌<◌, ℕ, length}
use Rattle.bx_base.specs.Bound.{price_at}
use Rattle.bx_check.proofs.sums.count_before.Given as goal

abbrev pub invariant-loop-low : goal.invariant-loop-low
invariant-loop-low l =
    record {
      order : l.low ≤ l.high;
      limit : l.high ≤ length l.prices;
      before : (k : ℕ) → k < l.low → (price_at l.prices k).moment < l.moment;
      following : (k : ℕ) → l.high ≤ k → k < length l.prices → l.moment ≤ (price_at l.prices k).moment;
    }

abbrev pub decreases-loop-low : goal.decreases-loop-low
decreases-loop-low l = l.high - l.low
