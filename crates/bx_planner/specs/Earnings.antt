-- What each count of channels would earn.
use Rattle.std.specs.Prelude.{◌≡◌, ℕ, ◌+◌, ◌<◌, Bool, List, length, slice_index_or}
use Rattle.bx_base.specs.Bookings.{Row}
use Rattle.bx_base.specs.Channels.{count_of}
use Rattle.bx_planner.specs.declared.earnings.Earning.{Earning}
use Rattle.bx_planner.specs.declared.earnings.Earning.TheVariants.{Most, TooFew}
use Rattle.bx_planner.specs.Musts.{IsTooManyMust}
use Rattle.bx_planner.specs.Capacity.{IsMostPaid}

-- whichever channels these are: the most that a lawful set pays on them, and how much more that is on one more, or the first
-- moment with more must rows than channels
abbrev pub IsEarning : List Row → ℕ → Earning → Type 0
IsEarning rows count (Most total next) = (channels : List Bool) → count_of channels ≡ count → IsMostPaid rows channels total × ((more : List Bool) → count_of more ≡ count + 1 → IsMostPaid rows more (total + next))
IsEarning rows count (TooFew moment) = (channels : List Bool) → count_of channels ≡ count → IsTooManyMust rows channels moment

-- the same for each count from 0 to 30
pub record AreEarnings (rows : List Row) (earnings : List Earning) : Type 0 where
  pub counts : length earnings ≡ 31
  pub each : (count : ℕ) (d : Earning) → count < 31 → IsEarning rows count (slice_index_or earnings count d)
