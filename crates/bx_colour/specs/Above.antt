-- Private: the first moment at which more run than so many.
use Rattle.std.specs.Prelude.{ℕ, ◌<◌, ◌≤◌, List}
use Rattle.bx_colour.specs.Counted.{running_between}

abbrev pub IsFirstAbove : List ℕ → List ℕ → ℕ → ℕ → Type 0
IsFirstAbove starts ends limit moment = (limit < running_between starts ends moment) × ((s : ℕ) → s < moment → running_between starts ends s ≤ limit)
