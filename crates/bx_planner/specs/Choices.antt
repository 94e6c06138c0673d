-- Which rows a plan is to accept, and the prices that prove it best.
use Rattle.std.specs.Prelude.{◌≡◌, ℕ, ◌≤◌, Bool, List, All, Option, pos}
use Rattle.bx_base.specs.Bookings.{Row, IsLawful, pay_of}
use Rattle.bx_base.specs.Bound.{Charge, IsPriceList, bound_of}
use Rattle.bx_base.specs.PlanParts.{Parts}
use Rattle.bx_base.specs.Plans.{is_accepted}
use Rattle.bx_line.specs.Moments.{IsMoment}
use Rattle.bx_colour.specs.Colouring.{is_in, IsFirstFit}

-- no lawful set pays more
abbrev pub IsBest : List Row → List Bool → ℕ → Type 0
IsBest rows channels total = (set : ℕ → Bool) → IsLawful rows channels set → pay_of rows set ≤ total

-- prices at moments of the rows, which bound the pay of each lawful set by the total
pub record ProvesBest (rows : List Row) (count : ℕ) (prices : List Charge) (total : ℕ) : Type 0 where
  pub list : IsPriceList prices
  pub placed : All (λ p. IsMoment rows p.moment) prices
  pub exact : bound_of rows count prices ≡ pos total

-- the assignment is the first-fit colouring of the rows that it accepts
abbrev pub IsFirstFitPlan : List Row → List Bool → List (Option ℕ) → Type 0
IsFirstFitPlan rows channels assigned = (accepted : List Bool) × IsFirstFit rows channels accepted assigned × ((i : ℕ) → is_accepted assigned i ≡ is_in accepted i)

-- a plan of these parts
abbrev pub planned : List Row → List Bool → List (Option ℕ) → List Charge → ℕ → Parts
planned rows channels assigned prices total = record { rows = rows; channels = channels; assigned = assigned; prices = prices; total = total }
