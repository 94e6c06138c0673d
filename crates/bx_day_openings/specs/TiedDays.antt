-- How a day opens whose events are logged.
use Rattle.std.specs.Prelude.{◌≡◌, ℕ, Bool, List, Option, None}
use Rattle.bx_base.specs.PlanParts.{Parts}
use Rattle.bx_day.specs.Day.{Day, opening}
use Rattle.bx_day_openings.specs.Openings.{AreTurns}
use Rattle.bx_day_openings.specs.Tied.{IsTied, IsTiedOf}
use Rattle.bx_day_openings.specs.declared.plan_opening.DayOpening.{DayOpening}
use Rattle.bx_day_openings.specs.declared.tied.TiedPlan.{TiedPlan}

-- the opening day of a plan that is proved, the digest of the text of this plan, and how many turns the day is to have
pub record IsTiedDay (asked : Option ℕ) (opened : Day) (digest : List ℕ) (turns : ℕ) : Type 0 where
  pub plan : Parts
  pub tied : IsTied None plan digest
  pub opens : opened ≡ opening plan.rows plan.assigned
  pub are_turns : AreTurns asked plan turns

-- the opening day of a plan that is proved, its channels, and the digest of the text of this plan
pub record IsTiedOpening (opened : Day) (channels : List Bool) (digest : List ℕ) : Type 0 where
  pub plan : Parts
  pub tied : IsTied None plan digest
  pub opens : opened ≡ opening plan.rows plan.assigned
  pub in_service : channels ≡ plan.channels

-- the same of the plan that the input of this name gave
pub record IsOpeningOf (gives : List ℕ → Option (List ℕ) → Type 0) (name : List ℕ) (opened : Day) (channels : List Bool) (digest : List ℕ) : Type 0 where
  pub plan : Parts
  pub tied : IsTiedOf gives name plan digest
  pub opens : opened ≡ opening plan.rows plan.assigned
  pub in_service : channels ≡ plan.channels

-- the same of this plan
pub record IsOpened (tied : TiedPlan) (o : DayOpening) : Type 0 where
  pub opens : o.exchange ≡ opening tied.plan.bookings tied.plan.assigned.items
  pub in_service : o.channels ≡ tied.plan.channels
  pub digest : o.digest ≡ tied.digest
