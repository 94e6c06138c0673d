use Rattle.std.proofs.Common.{◌≡◌, ◌<◌, ℕ, length, get_or}
use Rattle.bx_dist.specs.Residual.{height_at, AreSmall}
use Rattle.bx_dist.proofs.potentials.Potentials.lifted.Given as goal

abbrev pub invariant-loop-place : goal.invariant-loop-place
invariant-loop-place l =
    record {
      size : length l.heights.items ≡ l.place-index;
      small : AreSmall l.heights.items;
      each : (v : ℕ) → v < l.place-index → height_at l.heights.items v ≡ height_at l.self (get_or l.places v 0);
    }
