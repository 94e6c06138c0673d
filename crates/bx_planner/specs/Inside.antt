-- Private: what its functions promise one another.
use Rattle.std.specs.Borrow.{Bor}
use Rattle.std.specs.Prelude.{◌≡◌, ℕ, ◌≤◌, Bool, List, All, Option, Some, None, pos, ◌<◌, true, length}
use Rattle.bx_base.specs.Bookings.{Row, row_at, pay_of}
use Rattle.bx_base.specs.Bound.{Charge, bound_of, sum_of_prices, IsCharge}
use Rattle.bx_base.specs.declared.plan.Plan.{Plan}
use Rattle.bx_check.specs.Before.{sum_before}
use Rattle.bx_line.specs.Moments.{IsMoment}
use Rattle.bx_colour.specs.Colouring.{is_in, running_at}
use Rattle.bx_planner.specs.Amending.{amended}
use Rattle.bx_planner.specs.Choices.{ProvesBest}
use Rattle.bx_base.specs.declared.plan.TheConstants.{MAX_PRICES}

-- the rows that a plan is asked for: these alone, or after those of an earlier plan
abbrev pub demanded : Option (Bor Plan) → List Row → List Row
demanded None rows = rows
demanded (Some plan) rows = amended plan.now.bookings plan.now.assigned.items rows

-- no charges that set this bound come to less, before a moment of the rows or altogether
pub record IsLeastBound (rows : List Row) (count : ℕ) (prices : List Charge) (total : ℕ) : Type 0 where
  pub before : (other : List Charge) → bound_of rows count other ≡ pos total → (moment : ℕ) → IsMoment rows moment → sum_before prices moment ≤ sum_before other moment
  pub whole : (other : List Charge) → bound_of rows count other ≡ pos total → sum_of_prices prices ≤ sum_of_prices other

-- marks for rows that so many channels can carry, with all must rows, and prices that prove them best
pub record IsBestChoice (rows : List Row) (count : ℕ) (accepted : List Bool) (prices : List Charge) : Type 0 where
  pub one_each : length accepted ≡ length rows
  pub enough : (moment : ℕ) → running_at rows accepted moment ≤ count
  pub musts : (i : ℕ) → i < length rows → (row_at rows i).must ≡ true → is_in accepted i ≡ true
  pub few : length prices ≤ MAX_PRICES
  pub limits : All IsCharge prices
  pub proof : ProvesBest rows count prices (pay_of rows (is_in accepted))
  pub least : IsLeastBound rows count prices (pay_of rows (is_in accepted))
