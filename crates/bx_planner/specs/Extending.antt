-- When an amended plan extends the plan before.
use Rattle.std.specs.Prelude.{ℕ, ◌<◌, ◌≤◌, Bool, List, length, Option}
use Rattle.bx_base.specs.Bookings.{Row, row_at, IsLawful, pay_of, Carries, AreBookings}
use Rattle.bx_base.specs.Plans.{is_accepted, channel_at}
use Rattle.bx_planner.specs.Choices.{IsBest, IsFirstFitPlan}
use Rattle.bx_base.specs.Extending.{Extends}
use Rattle.bx_base.specs.PlanParts.{Parts}
use Rattle.bx_planner.specs.Amending.{amended, IsBestPlan, KeepsPromises}

-- the first-fit colouring of a lawful set that no other outpays
pub record IsBestFirstFit (rows : List Row) (channels : List Bool) (assigned : List (Option ℕ)) : Type 0 where
  pub first_fit : IsFirstFitPlan rows channels assigned
  pub lawful : IsLawful rows channels (is_accepted assigned)
  pub best : IsBest rows channels (pay_of rows (is_accepted assigned))

-- each of these starts at moment m or later
abbrev pub StartFrom : ℕ → List Row → Type 0
StartFrom m rows = (i : ℕ) → i < length rows → m ≤ (row_at rows i).start

-- where a plan is a best one and first fit, and the new bookings start at moment m or later, the plan after extends it from m
abbrev pub ExtendsWhereLater : Parts → List Row → Parts → Type 0
ExtendsWhereLater plan more after =
    (m : ℕ)
    → IsBestFirstFit plan.rows plan.channels plan.assigned
    → StartFrom m more
    → Extends m plan.rows plan.assigned after.rows after.assigned

-- a first-fit plan that keeps all promises of a best first-fit plan, and whose new bookings start at moment m or later, extends
-- it from m
abbrev pub AreFirstFitPlansExtended : Type 0
AreFirstFitPlansExtended =
    (m : ℕ) (rows more : List Row) (channels : List Bool) (assigned after : List (Option ℕ))
    → AreBookings rows
    → IsBestFirstFit rows channels assigned
    → IsFirstFitPlan (amended rows assigned more) channels after
    → Carries (amended rows assigned more) channels (is_accepted after) (channel_at after)
    → KeepsPromises rows assigned after
    → StartFrom m more
    → Extends m rows assigned (amended rows assigned more) after

-- and a best plan is such a plan
abbrev pub AreBestPlansFirstFit : Type 0
AreBestPlansFirstFit =
    (rows : List Row) (channels : List Bool) (plan : Parts)
    → IsBestPlan rows channels plan
    → IsBestFirstFit rows channels plan.assigned
