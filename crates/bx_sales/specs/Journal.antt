-- A journal that has amendments among its events tells the last plan and the day.
use Rattle.std.specs.Prelude.{◌≡◌, ℕ, Bool, true, false, List, [], ◌∷◌, length, map, Option, is_some}
use Rattle.bx_base.specs.Bookings.{Row, AreBookings, Carries}
use Rattle.bx_base.specs.Channels.{has_channel}
use Rattle.bx_base.specs.Plans.{is_accepted, channel_at}
use Rattle.bx_channels.specs.Marks.{is_marked}
use Rattle.bx_colour.specs.Colouring.{IsFirstFit}
use Rattle.bx_day.specs.Day.{Day, opening}
use Rattle.bx_day.specs.Outages.{live_happens, live_day_after}
use Rattle.bx_events.specs.Events.{LiveEvent, OnLink, WithoutLink, Amended, HeardByRulesTwo}
use Rattle.bx_events.specs.declared.amendment.Amendment.{Amendment}
use Rattle.bx_events.specs.declared.amendment.Amendment.TheVariants.{Sold, SoldByRulesTwo}
use Rattle.bx_sales.specs.Amending.{AmendsDay, rows_amended, marks_amended}
use Rattle.bx_sales.specs.Selling.{rows_of, marks_of}
use Rattle.bx_sales.specs.Tags.{row_behind}

-- the bookings that were sold, by what their lines say
abbrev pub sold_by : (List ℕ → Row) → Amendment → List ℕ → List Row → List Row
sold_by row_on Sold line rows = row_behind row_on line ∷ rows
sold_by row_on SoldByRulesTwo line rows = row_behind row_on line ∷ rows
sold_by row_on _ line rows = rows

abbrev pub sold_in : (List ℕ → Row) → List LiveEvent → List Row
sold_in row_on [] = []
sold_in row_on (Amended kind line ∷ events) = sold_by row_on kind line (sold_in row_on events)
sold_in row_on (OnLink event ∷ events) = sold_in row_on events
sold_in row_on (WithoutLink rules ∷ events) = sold_in row_on events
sold_in row_on (HeardByRulesTwo octets ∷ events) = sold_in row_on events

-- the bookings of the last plan, and which of them it accepts, by those of a plan and by what amends it
abbrev pub rows_after : (List ℕ → Row) → List LiveEvent → List Row → List Row
rows_after row_on [] rows = rows
rows_after row_on (Amended kind line ∷ events) rows = rows_after row_on events (rows_amended row_on kind line rows)
rows_after row_on (OnLink event ∷ events) rows = rows_after row_on events rows
rows_after row_on (WithoutLink rules ∷ events) rows = rows_after row_on events rows
rows_after row_on (HeardByRulesTwo octets ∷ events) rows = rows_after row_on events rows

abbrev pub marks_after : List LiveEvent → List Bool → List Bool
marks_after [] marks = marks
marks_after (Amended kind line ∷ events) marks = marks_after events (marks_amended kind line marks)
marks_after (OnLink event ∷ events) marks = marks_after events marks
marks_after (WithoutLink rules ∷ events) marks = marks_after events marks
marks_after (HeardByRulesTwo octets ∷ events) marks = marks_after events marks

-- a day that goes through these, and goes on with another plan at each amendment
abbrev pub RunsThrough : List Bool → (List ℕ → Row) → List LiveEvent → Day → Day → Type 0
RunsThrough channels row_on [] old new = new ≡ old
RunsThrough channels row_on (Amended kind line ∷ events) old new = (amended : Day) × AmendsDay channels row_on kind line old amended × RunsThrough channels row_on events amended new
RunsThrough channels row_on (OnLink event ∷ events) old new = RunsThrough channels row_on events (live_happens old (OnLink event)).day new
RunsThrough channels row_on (WithoutLink rules ∷ events) old new = RunsThrough channels row_on events (live_happens old (WithoutLink rules)).day new
RunsThrough channels row_on (HeardByRulesTwo octets ∷ events) old new = RunsThrough channels row_on events (live_happens old (HeardByRulesTwo octets)).day new

-- none of these channels is lost
abbrev pub AreAllLeft : List Bool → Day → Type 0
AreAllLeft channels d = (c : ℕ) → has_channel channels c ≡ true → is_marked d.maintenance c ≡ false

-- the plan of the morning as the journal amends it, coloured once, has the day by just these events, where no channel was lost
abbrev pub IsToldByJournal : Type 0
IsToldByJournal = (channels : List Bool) (row_on : List ℕ → Row) (rows : List Row) (accepted : List Bool) (assigned : List (Option ℕ)) (events : List LiveEvent) (d : Day) →
    length accepted ≡ length rows → AreBookings rows → Carries rows channels (is_accepted assigned) (channel_at assigned) → IsFirstFit rows channels accepted assigned →
    RunsThrough channels row_on events (opening rows assigned) d → AreAllLeft channels d →
    (last : List (Option ℕ)) → IsFirstFit (rows_after row_on events rows) channels (marks_after events accepted) last →
    d ≡ live_day_after events (opening (rows_after row_on events rows) last)

-- a day that has the bookings of a plan, with these of them accepted, which the channels carry
pub record HasLastPlan (channels : List Bool) (rows : List Row) (marks : List Bool) (events : List LiveEvent) (d : Day) : Type 0 where
  pub bookings : AreBookings rows
  pub rows_are : rows_of d ≡ rows
  pub marks_are : marks_of d ≡ marks
  pub last : List (Option ℕ)
  pub one_each : length last ≡ length rows
  pub accepted : map is_some last ≡ marks
  pub carried : Carries rows channels (is_accepted last) (channel_at last)
  pub day : d ≡ live_day_after events (opening rows last)

-- so has each day that went through a journal from the opening of a plan that is carried: it is the day of a last plan, by just these events
abbrev pub HasAmendedPlan : Type 0
HasAmendedPlan = (channels : List Bool) (row_on : List ℕ → Row) (rows : List Row) (assigned : List (Option ℕ)) (events : List LiveEvent) (d : Day) →
    length assigned ≡ length rows → AreBookings rows → Carries rows channels (is_accepted assigned) (channel_at assigned) → RunsThrough channels row_on events (opening rows assigned) d →
    HasLastPlan channels (rows_after row_on events rows) (marks_after events (map is_some assigned)) events d

-- a journal leads from a day to one other day
abbrev pub IsOneDayByJournal : Type 0
IsOneDayByJournal = (channels : List Bool) (row_on : List ℕ → Row) (events : List LiveEvent) (old new new' : Day) →
    RunsThrough channels row_on events old new → RunsThrough channels row_on events old new' → new' ≡ new
