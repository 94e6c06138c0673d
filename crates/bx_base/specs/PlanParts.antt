-- A plan as a value: what it says, with no word on how it lies in memory.
use Rattle.std.specs.Prelude.{◌≡◌, ℕ, ◌<◌, ◌≤◌, Bool, List, length, Option, Some, None, slice_index_or, Vec}
use Rattle.std.specs.declared.alloc.Global.{Global}
use Rattle.bx_base.specs.declared.plan.Plan.{Plan}
use Rattle.bx_channels.specs.ChannelNumbers.{IsChannel}
use Rattle.bx_base.specs.Channels.{IsChannelSet}
use Rattle.bx_base.specs.Bookings.{Row, AreBookings}
use Rattle.bx_base.specs.Bound.{Charge, IsCharge, price_at}
use Rattle.bx_base.specs.declared.plan.TheConstants.{MAX_PRICES, MAX_TOTAL}

-- the parts of a plan
pub record Parts : Type 0 where
  pub rows : List Row
  pub channels : List Bool
  pub assigned : List (Option ℕ)
  pub prices : List Charge
  pub total : ℕ

-- the parts of this plan
abbrev pub parts_of : Plan → Parts
parts_of plan = record { rows = plan.bookings; channels = plan.channels; assigned = plan.assigned.items; prices = plan.prices.items; total = plan.total }

-- a plan of just these parts
abbrev pub IsMadeOf : List Row → List Bool → Vec (Option ℕ) Global → Vec Charge Global → ℕ → Plan → Type 0
IsMadeOf rows channels assigned prices total plan =
    (plan.bookings ≡ rows)
    × (plan.channels ≡ channels)
    × (plan.assigned ≡ assigned)
    × (plan.prices ≡ prices)
    × (plan.total ≡ total)

-- the limits of a plan
pub record IsPlan (parts : Parts) : Type 0 where
  pub rows : AreBookings parts.rows
  pub channels : IsChannelSet parts.channels
  pub one_each : length parts.assigned ≡ length parts.rows
  pub assigned : (i c : ℕ) → slice_index_or parts.assigned i None ≡ Some c → IsChannel c
  pub few_prices : length parts.prices ≤ MAX_PRICES
  pub prices : (i : ℕ) → i < length parts.prices → IsCharge (price_at parts.prices i)
  pub total : parts.total ≤ MAX_TOTAL
