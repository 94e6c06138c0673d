-- The answers of the check, each with what it says. Just one applies to a plan.
use Rattle.std.specs.Prelude.{◌≡◌, ◌≢◌, ℕ, ◌-◌, ◌<◌, ◌≤◌, pos, Bool, List, length, map, Result, Ok, Err}
use Rattle.std.specs.List.Sorted.{IsStrictlyIncreasing}
use Rattle.bx_base.specs.Channels.{count_of}
use Rattle.bx_base.specs.Bookings.{Row, pay_of}
use Rattle.bx_base.specs.Bound.{Charge, bound_of}
use Rattle.bx_base.specs.Plans.{is_accepted, IsOutOfService, Clash, IsMustLeftOut}
use Rattle.bx_base.specs.PlanParts.{Parts}
use Rattle.bx_check.specs.declared.checker.CheckFault.{CheckFault}
use Rattle.bx_check.specs.declared.checker.CheckFault.TheVariants.{OtherBookings, OtherChannels, NotInService, Overlap, MustLeftOut, WrongTotal, PricesOutOfOrder, NotProved}

-- the plan is one of these bookings and channels
pub record IsFor (rows : List Row) (channels : List Bool) (plan : Parts) : Type 0 where
  pub bookings : rows ≡ plan.rows
  pub channels_too : channels ≡ plan.channels

-- no accepted row has a channel out of service
abbrev pub AllInService : Parts → Type 0
AllInService plan = (i : ℕ) → i < length plan.rows → ¬ IsOutOfService plan.assigned plan.channels i

-- no two accepted rows overlap on a channel
abbrev pub NoneOverlap : Parts → Type 0
NoneOverlap plan = (i k : ℕ) → i < k → k < length plan.rows → ¬ Clash plan.rows plan.assigned i k

-- each must row is accepted
abbrev pub HasMusts : Parts → Type 0
HasMusts plan = (i : ℕ) → i < length plan.rows → ¬ IsMustLeftOut plan.rows plan.assigned i

-- its total is what its accepted rows pay
abbrev pub IsTotalRight : Parts → Type 0
IsTotalRight plan = plan.total ≡ pay_of plan.rows (is_accepted plan.assigned)

-- the moments of the prices rise strictly
abbrev pub IsRising : List Charge → Type 0
IsRising prices = IsStrictlyIncreasing (map (λ p. p.moment) prices)

-- an accepted row whose channel is out of service, and none before it
pub record IsNotInService (rows : List Row) (channels : List Bool) (plan : Parts) (b : ℕ) : Type 0 where
  pub parts : IsFor rows channels plan
  pub positive : 1 ≤ b
  pub within : b ≤ length plan.rows
  pub here : IsOutOfService plan.assigned plan.channels (b - 1)
  pub least : (i : ℕ) → i < b - 1 → ¬ IsOutOfService plan.assigned plan.channels i

-- the first two rows that overlap on a channel: the least first row, and for it the least second
pub record IsOverlap (rows : List Row) (channels : List Bool) (plan : Parts) (a b : ℕ) : Type 0 where
  pub parts : IsFor rows channels plan
  pub in_service : AllInService plan
  pub positive : 1 ≤ a
  pub rising : a < b
  pub within : b ≤ length plan.rows
  pub here : Clash plan.rows plan.assigned (a - 1) (b - 1)
  pub least_first : (i k : ℕ) → i < a - 1 → i < k → k < length plan.rows → ¬ Clash plan.rows plan.assigned i k
  pub least_second : (k : ℕ) → a - 1 < k → k < b - 1 → ¬ Clash plan.rows plan.assigned (a - 1) k

-- a must row that is not accepted, and none before it
pub record IsMustMissing (rows : List Row) (channels : List Bool) (plan : Parts) (b : ℕ) : Type 0 where
  pub parts : IsFor rows channels plan
  pub in_service : AllInService plan
  pub none_overlap : NoneOverlap plan
  pub positive : 1 ≤ b
  pub within : b ≤ length plan.rows
  pub here : IsMustLeftOut plan.rows plan.assigned (b - 1)
  pub least : (i : ℕ) → i < b - 1 → ¬ IsMustLeftOut plan.rows plan.assigned i

-- a plan of these parts whose accepted rows are lawful
pub record IsSound (rows : List Row) (channels : List Bool) (plan : Parts) : Type 0 where
  pub parts : IsFor rows channels plan
  pub in_service : AllInService plan
  pub none_overlap : NoneOverlap plan
  pub has_musts : HasMusts plan

-- the one answer of the check
abbrev pub IsOutcome : List Row → List Bool → Parts → Result ℕ CheckFault → Type 0
IsOutcome rows channels plan (Err OtherBookings) = rows ≢ plan.rows
IsOutcome rows channels plan (Err OtherChannels) = (rows ≡ plan.rows) × (channels ≢ plan.channels)
IsOutcome rows channels plan (Err (NotInService b)) = IsNotInService rows channels plan b
IsOutcome rows channels plan (Err (Overlap a b)) = IsOverlap rows channels plan a b
IsOutcome rows channels plan (Err (MustLeftOut b)) = IsMustMissing rows channels plan b
IsOutcome rows channels plan (Err WrongTotal) = IsSound rows channels plan × ¬ IsTotalRight plan
IsOutcome rows channels plan (Err PricesOutOfOrder) = IsSound rows channels plan × IsTotalRight plan × ¬ IsRising plan.prices
IsOutcome rows channels plan (Err (NotProved bound)) = IsSound rows channels plan × IsTotalRight plan × IsRising plan.prices × (pos bound ≡ bound_of plan.rows (count_of plan.channels) plan.prices) × (bound ≢ plan.total)
IsOutcome rows channels plan (Ok total) = IsSound rows channels plan × IsTotalRight plan × IsRising plan.prices × (bound_of plan.rows (count_of plan.channels) plan.prices ≡ pos plan.total) × (total ≡ plan.total)

-- two answers for one plan, and the same bookings and channels, are equal
abbrev pub AreAnswersOne : Type 0
AreAnswersOne = (rows : List Row) (channels : List Bool) (plan : Parts) (a b : Result ℕ CheckFault) → IsOutcome rows channels plan a → IsOutcome rows channels plan b → a ≡ b
