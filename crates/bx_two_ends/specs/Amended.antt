-- Two ends of a day whose plan is amended while it runs: bookings are sold, given up and changed at the exchange, of which the far end hears nothing.
use Rattle.std.specs.Prelude.{◌≡◌, ℕ, Bool, List, [], ◌∷◌, ◌++◌, length, map, Option, Some, None, is_some}
use Rattle.bx_base.specs.Bookings.{Row, AreBookings, Carries}
use Rattle.bx_base.specs.Channels.{IsChannelSet}
use Rattle.bx_base.specs.Plans.{is_accepted, channel_at}
use Rattle.bx_q931.specs.Outgoing.{Outgoing, out_octets}
use Rattle.bx_day.specs.Day.{Day, opening}
use Rattle.bx_events.specs.Events as live
use Rattle.bx_events.specs.Events.{LiveEvent, Tick, Receive, OnLink, Amended}
use Rattle.bx_events.specs.declared.amendment.Amendment.{Amendment}
use Rattle.bx_events.specs.declared.rules.Rules.TheVariants.{Three}
use Rattle.bx_far.specs.declared.row.ScriptRow.{ScriptRow}
use Rattle.bx_sales.specs.Amending.{AmendsDay}
use Rattle.bx_sales.specs.Journal.{rows_after, marks_after, RunsThrough}
use Rattle.bx_sales.specs.Selling.{rows_of, marks_of}
use Rattle.bx_two_ends.specs.Scripts.{AreScriptRows}
use Rattle.bx_two_ends.specs.TwoEnds.{IsTwoEnds}
use Rattle.bx_two_ends.specs.TwoEndsInward.{IsTwoEndsInward}
use Rattle.bx_two_ends.specs.World.{World, WorldEvent, TickExchange, WithoutLink, ToExchange, message_nth, world_opening, world_happens}

-- a step of such a world
pub data WorldStep : Type 0 where
  Happens : (event : WorldEvent) → WorldStep
  -- a line of the exchange's journal amends its plan
  Amends : (kind : Amendment) (line : List ℕ) → WorldStep

-- the same world, in which the exchange has this day
abbrev pub with_exchange : World → Day → World
with_exchange w d = record w { exchange = d }

-- what the exchange's journal has of an event of the world
abbrev pub logged_from : Option Outgoing → List LiveEvent
logged_from None = []
logged_from (Some o) = OnLink (Receive (out_octets o)) ∷ []

abbrev pub logged_of : WorldEvent → World → List LiveEvent
logged_of TickExchange w = OnLink Tick ∷ []
logged_of WithoutLink w = live.WithoutLink Three ∷ []
logged_of (ToExchange n) w = logged_from (message_nth w.far_sent n)
logged_of _ w = []

-- the worlds that these steps lead from and to, with what is logged meanwhile: at each line the exchange goes on with another plan
abbrev pub StepsLead : List Bool → (List ℕ → Row) → List WorldStep → List LiveEvent → World → World → Type 0
StepsLead channels row_on [] logged old new = (logged ≡ []) × (new ≡ old)
StepsLead channels row_on (Happens event ∷ steps) logged old new =
    (later : List LiveEvent) × (logged ≡ logged_of event old ++ later) × StepsLead channels row_on steps later (world_happens old event) new
StepsLead channels row_on (Amends kind line ∷ steps) logged old new =
    (later : List LiveEvent) × (logged ≡ Amended kind line ∷ later)
    × (amended : Day) × AmendsDay channels row_on kind line old.exchange amended × StepsLead channels row_on steps later (with_exchange old amended) new

-- a world in which the exchange has the day of a plan with these bookings, of which these are accepted, and both laws of two ends hold
pub record IsAmendedWorld (rows : List Row) (marks : List Bool) (w : World) : Type 0 where
  pub rows_are : rows_of w.exchange ≡ rows
  pub marks_are : marks_of w.exchange ≡ marks
  pub outward : IsTwoEnds rows w
  pub inward : IsTwoEndsInward w

-- of every carried plan, every script, every list of events and whatever amends the plan among them: the bookings are those of the plan as the journal amends
-- them, the ends agree, and each run that has this journal is at the day of this exchange
abbrev pub TwoEndsAmended : Type 0
TwoEndsAmended =
    (rows : List Row) (channels : List Bool) (assigned : List (Option ℕ)) (script : List ScriptRow) (row_on : List ℕ → Row) (steps : List WorldStep) (logged : List LiveEvent) (w : World)
    → AreBookings rows → IsChannelSet channels → Carries rows channels (is_accepted assigned) (channel_at assigned) → AreScriptRows script
    → length assigned ≡ length rows → StepsLead channels row_on steps logged (world_opening rows assigned script) w
    → IsAmendedWorld (rows_after row_on logged rows) (marks_after logged (map is_some assigned)) w
    × ((d : Day) → RunsThrough channels row_on logged (opening rows assigned) d → d ≡ w.exchange)
