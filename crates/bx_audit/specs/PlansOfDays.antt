-- Private: the last plan of a day, by what the day has.
use Rattle.std.specs.Prelude.{◌≡◌, ℕ, Bool, not, List, map}
use Rattle.bx_base.specs.Bookings.{Row, IsLawful, pay_of}
use Rattle.bx_base.specs.Bound.{Charge}
use Rattle.bx_base.specs.Channels.{count_of}
use Rattle.bx_base.specs.PlanParts.{Parts}
use Rattle.bx_base.specs.Plans.{is_accepted}
use Rattle.bx_day.specs.Day.{Day}
use Rattle.bx_day.specs.Invariant.{is_refused}
use Rattle.bx_day.specs.declared.entry.Entry.{Entry}
use Rattle.bx_planner.specs.Choices.{IsBest, ProvesBest}
use Rattle.bx_audit.specs.DayChannels.{channels_on}
use Rattle.bx_audit.specs.HeldRows.{row_held}

-- the bookings of a day as a plan has them that accepts what the day has accepted
abbrev pub rows_held_on : Day → List Row
rows_held_on d = map (λ (e : Entry). row_held e.booking (not (is_refused e.standing))) d.entries

-- the prices of a best choice of these bookings
pub record ArePrices (rows : List Row) (channels : List Bool) (prices : List Charge) : Type 0 where
  pub set : ℕ → Bool
  pub lawful : IsLawful rows channels set
  pub proves : ProvesBest rows (count_of channels) prices (pay_of rows set)
  pub best : IsBest rows channels (pay_of rows set)

-- the bookings of a day on these channels, those that it has accepted on the channels that they have there, with such prices, and what those pay
pub record IsPlanOfDay (d : Day) (channels : List Bool) (plan : Parts) : Type 0 where
  pub rows_are : plan.rows ≡ rows_held_on d
  pub in_service : plan.channels ≡ channels
  pub assigned_are : plan.assigned ≡ channels_on d
  pub paid : plan.total ≡ pay_of (rows_held_on d) (is_accepted plan.assigned)
  pub priced : ArePrices (rows_held_on d) channels plan.prices
