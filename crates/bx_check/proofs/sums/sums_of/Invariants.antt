use Rattle.std.proofs.Common.{◌≡◌, ◌≤◌, ◌+◌, ◌*◌, ℕ, length, take, slice_index_or}
use Rattle.bx_base.specs.Bound.{sum_of_prices}
use Rattle.bx_check.proofs.sums.sums_of.Given as goal

abbrev pub invariant-loop-price : goal.invariant-loop-price
invariant-loop-price l =
    record {
      so_far : l.sum ≡ sum_of_prices (take l.price-index l.prices);
      limit : l.sum ≤ l.price-index * 16000000000000;
      count : length l.sums.items ≡ l.price-index + 1;
      each : (n : ℕ) → n ≤ l.price-index → slice_index_or l.sums.items n 0 ≡ sum_of_prices (take n l.prices);
    }
