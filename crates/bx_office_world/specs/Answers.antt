-- What is answered of the day that runs.
use Rattle.std.specs.Prelude.{◌≡◌, Bool, List, Option}
use Rattle.bx_base.specs.Bookings.{Row}
use Rattle.bx_base.specs.PlanParts.{Parts, IsPlan}
use Rattle.bx_calendar.specs.declared.clock.Clock.{Clock}
use Rattle.bx_day.specs.Day.{Day}
use Rattle.bx_market.specs.Choices.{promised}
use Rattle.bx_planner.specs.Musts.{IsTooManyMust}
use Rattle.bx_planner.specs.Proved.{IsProved}
use Rattle.bx_records.specs.Writing.{IsBeyond}
use Rattle.bx_sales.specs.Left.{left_in_service}
use Rattle.bx_office_world.specs.declared.fault.NoAnswer.{NoAnswer}
use Rattle.bx_office_world.specs.declared.fault.NoAnswer.TheVariants.{OutOfRange, TooManyMust, Memory}

-- ---- the plan of all that is promised

-- all that is promised, but for what has begun on a channel that is not left: that is in maintenance, or none of the set
abbrev pub promised_on_left : Day → List Bool → List Row
promised_on_left d channels = promised (left_in_service channels d) d.moment d.entries

-- a best plan of it on the channels that are left, with the least prices that prove it
pub record IsPromisedPlan (d : Day) (channels : List Bool) (plan : Parts) : Type 0 where
  pub proved : IsProved (promised_on_left d channels) (left_in_service channels d) plan
  pub limits : IsPlan plan
  pub rows : plan.rows ≡ promised_on_left d channels

-- why there is none: the channels that are left do not carry all of it, or memory runs out
abbrev pub IsNoPromisedPlan : Day → List Bool → NoAnswer → Type 0
IsNoPromisedPlan d channels (TooManyMust moment) = IsTooManyMust (promised_on_left d channels) (left_in_service channels d) moment
IsNoPromisedPlan d channels Memory = Unit {0}
IsNoPromisedPlan d channels _ = ⊥

-- ---- the records

abbrev pub IsNoRecords : Option Clock → NoAnswer → Type 0
IsNoRecords clock OutOfRange = IsBeyond clock
IsNoRecords clock Memory = Unit {0}
IsNoRecords clock _ = ⊥
