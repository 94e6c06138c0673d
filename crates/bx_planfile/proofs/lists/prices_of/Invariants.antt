use Rattle.std.proofs.Common.{◌≡◌, ℕ, ◌≤◌, ◌+◌, ◌-◌, vec_len}
use Rattle.bx_planfile.specs.Reading.{read_prices}
use Rattle.bx_planfile.proofs.Loops.{with_prices}
use Rattle.bx_planfile.proofs.lists.prices_of.Given as goal

abbrev pub invariant-loop-i : goal.invariant-loop-i
invariant-loop-i l = record {
  len : vec_len l.prices ≡ l.i;
  so_far : (m : ℕ) → l.i ≤ m → with_prices l.prices.items (read_prices (m - l.i) (l.n + l.i) l.rest) ≡ read_prices m l.n l.bytes;
}
