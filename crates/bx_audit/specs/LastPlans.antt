-- The last plan of a day, by its journal.
use Rattle.std.specs.Prelude.{◌≡◌, ℕ, ◌&&◌, Bool, true, false, List, [], ◌∷◌, ◌++◌, map, is_some, Option, Result, Ok, Err}
use Rattle.std.specs.Io.KnownBytes.{Appends}
use Rattle.bx_base.specs.Bookings.{Row}
use Rattle.bx_base.specs.PlanParts.{Parts, IsPlan}
use Rattle.bx_check.specs.Check.{IsOutcome}
use Rattle.bx_check.specs.declared.checker.CheckFault.{CheckFault}
use Rattle.bx_check.specs.declared.checker.CheckFault.TheVariants.{NotProved}
use Rattle.bx_colour.specs.Colouring.{IsFirstFit}
use Rattle.bx_day.specs.Day.{Day, opening}
use Rattle.bx_day.specs.Outages.{live_day_after}
use Rattle.bx_day_openings.specs.Journals.{IsJournal}
use Rattle.bx_day_openings.specs.Tied.{IsTiedOf}
use Rattle.bx_devices.specs.Devices.{Writing}
use Rattle.bx_events.specs.Events.{LiveEvent, OnLink, WithoutLink, Amended, HeardByRulesTwo}
use Rattle.bx_events.specs.declared.amendment.Amendment.{Amendment}
use Rattle.bx_events.specs.declared.amendment.Amendment.TheVariants.{Sold, Cancelled, Changed, SoldByRulesTwo, Delayed, Dropped, Out}
use Rattle.bx_journal.specs.Heads.{of_any_day}
use Rattle.bx_planfile.specs.OneBooking.{row_on}
use Rattle.bx_planfile.specs.Text.{plan_text}
use Rattle.bx_planfile.specs.declared.version.Version.TheVariants.{Three}
use Rattle.bx_request.specs.declared.request.SoldRequest.{SoldRequest}
use Rattle.bx_sales.specs.Journal.{sold_in, rows_after, marks_after, RunsThrough, AreAllLeft}
use Rattle.bx_audit.specs.DayChannels.{channels_on}
use Rattle.bx_audit.specs.HeldRows.{rows_as_held}

-- nothing was given up or changed: all that amends the plan are sales, and channels that are left
abbrev pub is_sale : Amendment → Bool
is_sale Sold = true
is_sale Cancelled = false
is_sale Changed = false
is_sale SoldByRulesTwo = true
is_sale Delayed = false
is_sale Dropped = false
is_sale Out = true

abbrev pub has_sales_alone : List LiveEvent → Bool
has_sales_alone [] = true
has_sales_alone (Amended kind line ∷ events) = is_sale kind && has_sales_alone events
has_sales_alone (OnLink event ∷ events) = has_sales_alone events
has_sales_alone (WithoutLink rules ∷ events) = has_sales_alone events
has_sales_alone (HeardByRulesTwo octets ∷ events) = has_sales_alone events

-- what the check says of the last plan: its prices prove it; or they do not, and only where something was given up or changed: it may then pay less than
-- another choice of its bookings, as one that takes what was given up
abbrev pub IsLastOutcome : List LiveEvent → Result ℕ CheckFault → Type 0
IsLastOutcome events (Ok total) = Unit {0}
IsLastOutcome events (Err (NotProved bound)) = has_sales_alone events ≡ false
IsLastOutcome events (Err fault) = ⊥

-- the accepted rows of a plan have the channels of first fit
abbrev pub HasFirstFit : Parts → Type 0
HasFirstFit plan = IsFirstFit plan.rows plan.channels (map is_some plan.assigned) plan.assigned

-- the bookings of the morning, and after them those that were sold; accepted is what the morning accepted, and each that was sold; first fit where the
-- morning is, and no channel was lost
pub record IsSoldOn (day : Day) (morning : Parts) (sold : List Row) (last : Parts) : Type 0 where
  pub rows_are : last.rows ≡ morning.rows ++ sold
  pub accepted : map is_some last.assigned ≡ map is_some morning.assigned ++ map (λ (row : Row). true) sold
  pub first_fit : AreAllLeft last.channels day → HasFirstFit morning → IsFirstFit last.rows last.channels (map is_some morning.assigned ++ map (λ (row : Row). true) sold) last.assigned

-- The plan of the morning that one input gave, which is proved, as the journal that another one gave amends it: its bookings, and accepted are those that it
-- leaves so; what is refused need not be held. The channels are those that these have on the day which the journal tells, and that is the day of this plan
-- over the events of the journal alone; where the morning is first fit, and no channel was lost, so is this plan. The check says yes to it, or that its prices do not prove it. Where
-- all that amends it are sales, it has the bookings of the morning and those that were sold, and is proved.
pub record IsLastPlan (gives : List ℕ → Option (List ℕ) → Type 0) (plan journal : List ℕ) (last : Parts) : Type 0 where
  pub morning : Parts
  pub digest : List ℕ
  pub tied : IsTiedOf gives plan morning digest
  pub before : Option (List ℕ)
  pub given : gives journal before
  pub events : List LiveEvent
  pub on_log : IsJournal (of_any_day digest) before events
  pub day : Day
  pub through : RunsThrough last.channels row_on events (opening morning.rows morning.assigned) day
  pub rows_are : last.rows ≡ rows_as_held (rows_after row_on events morning.rows) (marks_after events (map is_some morning.assigned))
  pub in_service : last.channels ≡ morning.channels
  pub accepted : map is_some last.assigned ≡ marks_after events (map is_some morning.assigned)
  pub assigned_are : last.assigned ≡ channels_on day
  pub of_plan : day ≡ live_day_after events (opening (rows_after row_on events morning.rows) last.assigned)
  pub first_fit : AreAllLeft last.channels day → HasFirstFit morning → IsFirstFit last.rows last.channels (marks_after events (map is_some morning.assigned)) last.assigned
  pub sold_on : has_sales_alone events ≡ true → IsSoldOn day morning (sold_in row_on events) last
  pub outcome : Result ℕ CheckFault
  pub checked : IsOutcome last.rows last.channels last outcome
  pub allowed : IsLastOutcome events outcome

-- the text of such a plan was written
pub record IsSoldTold (gives : List ℕ → Option (List ℕ) → Type 0) (request : SoldRequest) (output : Writing) : Type 0 where
  pub last : Parts
  pub is : IsLastPlan gives request.plan.now request.journal.now last
  pub limits : IsPlan last
  pub written : Appends output.before output.after (plan_text Three last)
