-- Bookings that each plan has to hold, which are the mandatory ones, and the first moment that has too many of them.
use Rattle.std.specs.Prelude.{ℕ, ◌<◌, ◌≤◌, ◌&&◌, Bool, List, length, if◌then◌else◌}
use Rattle.bx_base.specs.Sums.{sum_below}
use Rattle.bx_base.specs.Channels.{count_of}
use Rattle.bx_base.specs.Bookings.{Row, row_at, is_running}

-- how many must rows run at a moment
abbrev pub musts_at : List Row → ℕ → ℕ
musts_at rows moment = sum_below (length rows) (λ i. if (row_at rows i).must && is_running (row_at rows i) moment then 1 else 0)

-- the first moment at which more must rows run than there are channels
pub record IsTooManyMust (rows : List Row) (channels : List Bool) (moment : ℕ) : Type 0 where
  pub here : count_of channels < musts_at rows moment
  pub least : (s : ℕ) → s < moment → musts_at rows s ≤ count_of channels
