-- Whether must rows leave a booking a channel.
use Rattle.std.specs.Prelude.{◌≡◌, ℕ, ◌<◌, ◌≤◌, Bool, true, false, List}
use Rattle.bx_base.specs.Bookings.{Row, is_running, IsLawful}
use Rattle.bx_base.specs.Channels.{count_of}
use Rattle.bx_planner.specs.Musts.{musts_at}

-- the first moment of the booking at which as many must rows run as there are channels
pub record IsNoChannel (rows : List Row) (channels : List Bool) (booking : Row) (moment : ℕ) : Type 0 where
  pub running : is_running booking moment ≡ true
  pub full : count_of channels ≤ musts_at rows moment
  pub least : (s : ℕ) → s < moment → is_running booking s ≡ true → musts_at rows s < count_of channels

-- no lawful set has the row at i, so at no price is it taken
abbrev pub IsNeverTaken : List Row → List Bool → ℕ → Type 0
IsNeverTaken rows channels i = (set : ℕ → Bool) → IsLawful rows channels set → set i ≡ false
