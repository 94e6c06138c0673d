use Rattle.std.proofs.Common.{◌≡◌, ◌<◌, ℕ, length, get_or}
use Rattle.std.specs.List.{AllPairs}
use Rattle.bx_line.proofs.moments.first_moments.Given as goal

abbrev pub invariant-loop-moment : goal.invariant-loop-moment
invariant-loop-moment l =
    record {
      size : length l.moments.items ≡ l.moment;
      rising : AllPairs (λ x y. x < y) l.moments.items;
      each : (k d : ℕ) → k < l.moment → get_or l.moments.items k d ≡ k;
    }
