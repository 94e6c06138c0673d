-- What is planned is earned on a day whose plan is amended while it runs: bookings are sold, given up and changed between its turns.
use Rattle.std.specs.Prelude.{◌≡◌, ◌≤◌, ◌+◌, ℕ, Bool, false, List, [], ◌∷◌, ◌++◌, length, map, Option, is_some}
use Rattle.bx_base.specs.Bookings.{Row, row_at, AreBookings, Carries, pay_of}
use Rattle.bx_base.specs.Plans.{is_accepted, channel_at}
use Rattle.bx_channels.specs.Marks.{is_marked}
use Rattle.bx_day.specs.Day.{Day, opening}
use Rattle.bx_day.specs.Law.{standing_at}
use Rattle.bx_day.specs.Outages.{without_link, live_day_after}
use Rattle.bx_day.specs.Ticks.{tick}
use Rattle.bx_events.specs.Events.{LiveEvent, Amended}
use Rattle.bx_events.specs.declared.amendment.Amendment.{Amendment}
use Rattle.bx_events.specs.declared.moment.TheConstants.{LAST_MOMENT}
use Rattle.bx_records.specs.Totals as totals
use Rattle.bx_records.specs.Totals.{pays_of}
use Rattle.bx_sales.specs.Amending.{AmendsDay}
use Rattle.bx_sales.specs.Journal.{rows_after, marks_after, RunsThrough}
use Rattle.bx_two_ends.specs.Earning.{LiveSecond, Linked, Unlinked, events_in, events_of, heard_in, EachTurn, IsAllAnswered, HasSeconds, HaveSeconds, IsLongEnough, AreLongEnough, IsCarriedBy}

-- a step of such a day: a second, or a line of the journal that amends its plan
pub data AmendedSecond : Type 0 where
  Passes : (second : LiveSecond) → AmendedSecond
  Amends : (kind : Amendment) (line : List ℕ) → AmendedSecond

-- the days that these steps lead from and to, where each turn is as P says of the day after its tick and of the one that it leaves; at each line the exchange
-- goes on with another plan
abbrev pub SecondsLead : (Day → Day → Type 0) → List Bool → (List ℕ → Row) → List AmendedSecond → Day → Day → Type 0
SecondsLead P channels row_on [] old new = new ≡ old
SecondsLead P channels row_on (Passes Unlinked ∷ steps) old new = SecondsLead P channels row_on steps (without_link old) new
SecondsLead P channels row_on (Passes (Linked received) ∷ steps) old new =
    P (tick old).day (heard_in received (tick old).day) × SecondsLead P channels row_on steps (heard_in received (tick old).day) new
SecondsLead P channels row_on (Amends kind line ∷ steps) old new =
    (amended : Day) × AmendsDay channels row_on kind line old amended × SecondsLead P channels row_on steps amended new

-- the seconds among them
abbrev pub seconds_in : List AmendedSecond → List LiveSecond
seconds_in [] = []
seconds_in (Passes second ∷ steps) = second ∷ seconds_in steps
seconds_in (Amends kind line ∷ steps) = seconds_in steps

-- what a journal has of them
abbrev pub logged_in : List AmendedSecond → List LiveEvent
logged_in [] = []
logged_in (Passes second ∷ steps) = events_in second ++ logged_in steps
logged_in (Amends kind line ∷ steps) = Amended kind line ∷ logged_in steps

-- the day of a last plan, which the channels carry, over these seconds; and each of its turns is as P says
pub record IsDayByTurns (P : Day → Day → Type 0) (channels : List Bool) (rows : List Row) (marks : List Bool) (seconds : List LiveSecond) (d : Day) : Type 0 where
  pub bookings : AreBookings rows
  pub last : List (Option ℕ)
  pub one_each : length last ≡ length rows
  pub accepted : map is_some last ≡ marks
  pub carried : Carries rows channels (is_accepted last) (channel_at last)
  pub day : d ≡ live_day_after (events_of seconds) (opening rows last)
  pub turns : EachTurn P seconds (opening rows last)

-- what was so of each turn while the day ran is so of each turn of the day of the last plan; and each run that has this journal is at this day
abbrev pub TurnsStay : (Day → Day → Type 0) → Type 0
TurnsStay P =
    (rows : List Row) (channels : List Bool) (assigned : List (Option ℕ)) (row_on : List ℕ → Row) (steps : List AmendedSecond) (d : Day) →
    AreBookings rows →
    Carries rows channels (is_accepted assigned) (channel_at assigned) →
    length assigned ≡ length rows →
    SecondsLead P channels row_on steps (opening rows assigned) d →
    IsDayByTurns P channels (rows_after row_on (logged_in steps) rows) (marks_after (logged_in steps) (map is_some assigned)) (seconds_in steps) d
    × ((other : Day) → RunsThrough channels row_on (logged_in steps) (opening rows assigned) other → other ≡ d)

-- a day on which the last plan is earned: by it each outward booking that has its seconds with a link is carried from when it is offered, on a link that is
-- never lost each of two seconds or more from a second after its start; where each has its seconds, or on such a link all are such, what is paid for carried
-- calls is the total of that plan; and no channel is in maintenance
pub record IsEarnedDay (channels : List Bool) (rows : List Row) (marks : List Bool) (seconds : List LiveSecond) (d : Day) : Type 0 where
  pub plan : IsDayByTurns IsAllAnswered channels rows marks seconds d
  pub carried : (i cleared offered ended : ℕ) → HasSeconds rows plan.last seconds i cleared offered ended → IsCarriedBy offered (row_at rows i).end (standing_at d i)
  pub unbroken : (turns : List (List (List ℕ))) (i : ℕ) → seconds ≡ map (λ (received : List (List ℕ)). Linked received) turns → IsLongEnough rows plan.last i (length turns)
      → IsCarriedBy ((row_at rows i).start + 1) (row_at rows i).end (standing_at d i)
  pub paid : HaveSeconds rows plan.last seconds → pays_of totals.is_carried d.entries ≡ pay_of rows (is_accepted plan.last)
  pub paid_unbroken : (turns : List (List (List ℕ))) → seconds ≡ map (λ (received : List (List ℕ)). Linked received) turns → AreLongEnough rows plan.last (length turns)
      → pays_of totals.is_carried d.entries ≡ pay_of rows (is_accepted plan.last)
  pub in_service : (channel : ℕ) → is_marked d.maintenance channel ≡ false

-- so is each where every turn was answered, by the plan that it has by then
abbrev pub IsEarnedAmended : Type 0
IsEarnedAmended =
    (rows : List Row) (channels : List Bool) (assigned : List (Option ℕ)) (row_on : List ℕ → Row) (steps : List AmendedSecond) (d : Day) →
    AreBookings rows →
    Carries rows channels (is_accepted assigned) (channel_at assigned) →
    length assigned ≡ length rows →
    length (seconds_in steps) ≤ LAST_MOMENT →
    SecondsLead IsAllAnswered channels row_on steps (opening rows assigned) d →
    IsEarnedDay channels (rows_after row_on (logged_in steps) rows) (marks_after (logged_in steps) (map is_some assigned)) (seconds_in steps) d
