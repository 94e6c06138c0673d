-- The last plan: all bookings of the day, of which just the promised ones are accepted.
use Rattle.std.specs.Prelude.{◌≡◌, ◌⊎◌, ◌<◌, ◌==◌, nat_le, ℕ, not, ◌&&◌, Bool, true, List, map, length, Option, Some, None, if◌then◌else◌}
use Rattle.bx_base.specs.Bookings.{Row}
use Rattle.bx_base.specs.PlanParts.{Parts, IsPlan}
use Rattle.bx_base.specs.Plans.{is_accepted}
use Rattle.bx_day.specs.Day.{entry_at}
use Rattle.bx_day.specs.Invariant.{is_refused, stands_accepted}
use Rattle.bx_day.specs.declared.entry.Entry.{Entry}
use Rattle.bx_planfile.specs.Text.{plan_text}
use Rattle.bx_planfile.specs.declared.version.Version.TheVariants.{Three}
use Rattle.bx_planner.specs.Musts.{IsTooManyMust}
use Rattle.bx_planner.specs.Proved.{IsProved}
use Rattle.bx_records.specs.Totals.{pays_of}
use Rattle.bx_office_world.specs.declared.fault.NoAnswer.{NoAnswer}
use Rattle.bx_office_world.specs.declared.fault.NoAnswer.TheVariants.{TooManyMust, Memory}

-- a booking that is promised is one that each plan has to hold, and no plan has to hold another one
abbrev pub last_plan_row : Entry → Row
last_plan_row e = record (e.booking) { must = not (is_refused e.standing) }

abbrev pub last_plan_rows : List Entry → List Row
last_plan_rows entries = map last_plan_row entries

-- a plan accepts a booking that is refused
pub record TakesRefused (entries : List Entry) (assigned : List (Option ℕ)) : Type 0 where
  pub place : ℕ
  pub inside : place < length entries
  pub refused : is_refused (entry_at entries place).standing ≡ true
  pub taken : is_accepted assigned place ≡ true

-- a booking has its channel of the day where it is promised, and else none
abbrev pub channel_named : ℕ → Option ℕ
channel_named c = if nat_le 1 c && (nat_le c 31 && not (c == 16)) then Some c else None

abbrev pub given : Entry → Option ℕ
given e = if is_refused e.standing then None else channel_named e.channel

-- a best plan of the bookings of the day that holds all that is promised, and nothing else, with the least prices that prove it
pub record IsProvedLast (entries : List Entry) (channels : List Bool) (plan : Parts) : Type 0 where
  pub proved : IsProved (last_plan_rows entries) channels plan
  pub limits : IsPlan plan
  pub rows : plan.rows ≡ last_plan_rows entries
  pub promised_alone : ¬ TakesRefused entries plan.assigned

-- what is promised, on the channels of the day, with the prices of a plan that pays more
pub record IsHeldAs (better : Parts) (entries : List Entry) (plan : Parts) : Type 0 where
  pub rows : plan.rows ≡ better.rows
  pub in_service : plan.channels ≡ better.channels
  pub on_channels : plan.assigned ≡ map given entries
  pub prices : plan.prices ≡ better.prices
  pub paid : plan.total ≡ pays_of stands_accepted entries

-- where the best plan that was found takes what was refused, since something was given up or changed: the prices are those of that plan, and bound what
-- any choice would pay
pub record IsBoundedLast (entries : List Entry) (channels : List Bool) (plan : Parts) : Type 0 where
  pub better : Parts
  pub proved : IsProved (last_plan_rows entries) channels better
  pub rows : better.rows ≡ last_plan_rows entries
  pub in_service : better.channels ≡ channels
  pub takes : TakesRefused entries better.assigned
  pub held : IsHeldAs better entries plan

abbrev pub IsLastPlanNow : List Entry → List Bool → Parts → Type 0
IsLastPlanNow entries channels plan = IsProvedLast entries channels plan ⊎ IsBoundedLast entries channels plan

-- why there is none: the channels do not carry all that is promised, or memory runs out
abbrev pub HasNoLastPlan : List Entry → List Bool → NoAnswer → Type 0
HasNoLastPlan entries channels (TooManyMust moment) = IsTooManyMust (last_plan_rows entries) channels moment
HasNoLastPlan entries channels Memory = Unit {0}
HasNoLastPlan entries channels _ = ⊥

-- the text is that of such a plan
abbrev pub IsPlanText : List Entry → List Bool → List ℕ → Type 0
IsPlanText entries channels text = (plan : Parts) × IsLastPlanNow entries channels plan × (text ≡ plan_text Three plan)
