-- A world of two ends whose plan is amended is that of the last plan, over its events alone: what has begun is the same in both plans, so the exchange sent the
-- same, and the far end and all that is on its way are the same.
use Rattle.std.proofs.Common.{◌≡◌, ℕ, Bool, List, [], ◌∷◌, ◌++◌, map, length, Option, Some, None, is_some, refl, sym, subst, ap, ◌∙◌}
use Rattle.bx_base.specs.Bookings.{Row, AreBookings, Carries}
use Rattle.bx_base.specs.Channels.{IsChannelSet}
use Rattle.bx_base.specs.Plans.{is_accepted, channel_at}
use Rattle.bx_q931.specs.Outgoing.{Outgoing, out_octets}
use Rattle.bx_day.specs.Changed.{changed, said_at_each, AgreesWith}
use Rattle.bx_day.specs.Day.{Day, opening}
use Rattle.bx_day.specs.Outages.{live_happens, live_day_after}
use Rattle.bx_day.specs.Ticks.{tick}
use Rattle.bx_day.specs.Run.{receive_octets}
use Rattle.bx_day.proofs.ChangedPlan.{changed_day, changed_said}
use Rattle.bx_events.specs.Events as live
use Rattle.bx_events.specs.Events.{LiveEvent, Tick, Receive, OnLink}
use Rattle.bx_events.specs.declared.amendment.Amendment.{Amendment}
use Rattle.bx_events.specs.declared.rules.Rules.TheVariants.{Three}
use Rattle.bx_far.specs.declared.row.ScriptRow.{ScriptRow}
use Rattle.bx_sales.specs.Amending.{AmendsDay, rows_amended, marks_amended}
use Rattle.bx_sales.specs.Journal.{rows_after, marks_after, RunsThrough, HasLastPlan, IsOneDayByJournal}
use Rattle.bx_sales.proofs.Journal.{plan_of}
use Rattle.bx_two_ends.specs.Amended.{WorldStep, Happens, Amends, with_exchange, logged_from, logged_of, StepsLead, IsAmendedWorld, TwoEndsAmended}
use Rattle.bx_two_ends.specs.Scripts.{AreScriptRows}
use Rattle.bx_two_ends.specs.TwoEnds.{IsTwoEnds}
use Rattle.bx_two_ends.specs.TwoEndsInward.{IsTwoEndsInward}
use Rattle.bx_two_ends.specs.World.{World, WorldEvent, TickExchange, TickFar, WithoutLink, FarWithoutLink, ToExchange, ToFar, exchange_becomes, comes_to_exchange, comes_to_far, message_nth, world_happens, world_opening, world_after}
use Rattle.bx_two_ends.proofs.InwardPoints.{inward_ends_hold}
use Rattle.bx_two_ends.proofs.NextPlan.{next_plan}
use Rattle.bx_two_ends.proofs.Points.{two_ends_hold}

-- ---- what the exchange goes through

abbrev near : List WorldEvent → World → List LiveEvent
near [] w = []
near (e ∷ es) w = logged_of e w ++ near es (world_happens w e)

-- the day behind these events is that of what the exchange goes through in them
abbrev IsDayNear : List WorldEvent → World → Type 0
IsDayNear es w = (world_after es w).exchange ≡ live_day_after (near es w) w.exchange

day_heard : (es : List WorldEvent) (w : World) → ((u : World) → IsDayNear es u) → (o : Option Outgoing) → (world_after es (comes_to_exchange w o)).exchange ≡ live_day_after (logged_from o ++ near es (comes_to_exchange w o)) w.exchange
day_heard es w rest None = rest w
day_heard es w rest (Some o) = rest (comes_to_exchange w (Some o))

day_unheard : (es : List WorldEvent) (w : World) → ((u : World) → IsDayNear es u) → (o : Option Outgoing) → (world_after es (comes_to_far w o)).exchange ≡ live_day_after (near es (comes_to_far w o)) w.exchange
day_unheard es w rest None = rest w
day_unheard es w rest (Some o) = rest (comes_to_far w (Some o))

day_near : (es : List WorldEvent) (w : World) → IsDayNear es w
day_near [] w = refl
day_near (TickExchange ∷ es) w = day_near es (world_happens w TickExchange)
day_near (WithoutLink ∷ es) w = day_near es (world_happens w WithoutLink)
day_near (TickFar ∷ es) w = day_near es (world_happens w TickFar)
day_near (FarWithoutLink ∷ es) w = day_near es (world_happens w FarWithoutLink)
day_near (ToExchange n ∷ es) w = day_heard es w (day_near es) (message_nth w.far_sent n)
day_near (ToFar n ∷ es) w = day_unheard es w (day_near es) (message_nth w.sent n)

-- ---- where it says the same, all else is the same

abbrev first_or : List Outgoing → List (List Outgoing) → List Outgoing
first_or none [] = none
first_or none (x ∷ xs) = x

abbrev all_but_first : List (List Outgoing) → List (List Outgoing)
all_but_first [] = []
all_but_first (x ∷ xs) = xs

-- the world behind these events where the exchange has another day, which says the same
abbrev IsSameWorld : List WorldEvent → World → Day → Type 0
IsSameWorld es w d = said_at_each (near es w) d ≡ said_at_each (near es w) w.exchange → world_after es (with_exchange w d) ≡ with_exchange (world_after es w) (live_day_after (near es w) d)

same_heard : (es : List WorldEvent) (w : World) (d : Day) → ((u : World) (x : Day) → IsSameWorld es u x) → (o : Option Outgoing)
    → said_at_each (logged_from o ++ near es (comes_to_exchange w o)) d ≡ said_at_each (logged_from o ++ near es (comes_to_exchange w o)) w.exchange
    → world_after es (comes_to_exchange (with_exchange w d) o) ≡ with_exchange (world_after es (comes_to_exchange w o)) (live_day_after (logged_from o ++ near es (comes_to_exchange w o)) d)
same_heard es w d rest None said = rest w d said
same_heard es w d rest (Some o) said =
    ap (λ (more : List Outgoing). world_after es (exchange_becomes w (receive_octets d (out_octets o)).day more)) (ap (first_or []) said)
    ∙ rest (comes_to_exchange w (Some o)) (receive_octets d (out_octets o)).day (ap all_but_first said)

same_unheard : (es : List WorldEvent) (w : World) (d : Day) → ((u : World) (x : Day) → IsSameWorld es u x) → (o : Option Outgoing)
    → said_at_each (near es (comes_to_far w o)) d ≡ said_at_each (near es (comes_to_far w o)) w.exchange
    → world_after es (comes_to_far (with_exchange w d) o) ≡ with_exchange (world_after es (comes_to_far w o)) (live_day_after (near es (comes_to_far w o)) d)
same_unheard es w d rest None said = rest w d said
same_unheard es w d rest (Some o) said = rest (comes_to_far w (Some o)) d said

same_world : (es : List WorldEvent) (w : World) (d : Day) → IsSameWorld es w d
same_world [] w d said = refl
same_world (TickExchange ∷ es) w d said =
    ap (λ (more : List Outgoing). world_after es (exchange_becomes w (tick d).day more)) (ap (first_or []) said)
    ∙ same_world es (world_happens w TickExchange) (tick d).day (ap all_but_first said)
same_world (WithoutLink ∷ es) w d said = same_world es (world_happens w WithoutLink) (live_happens d (live.WithoutLink Three)).day (ap all_but_first said)
same_world (TickFar ∷ es) w d said = same_world es (world_happens w TickFar) d said
same_world (FarWithoutLink ∷ es) w d said = same_world es (world_happens w FarWithoutLink) d said
same_world (ToExchange n ∷ es) w d said = same_heard es w d (same_world es) (message_nth w.far_sent n) said
same_world (ToFar n ∷ es) w d said = same_unheard es w d (same_world es) (message_nth w.sent n) said

-- so the world of another plan that agrees with the day is the same but for the exchange
module _ (rows : List Row) (assigned : List (Option ℕ)) (script : List ScriptRow) (es : List WorldEvent) (rows' : List Row) (assigned' : List (Option ℕ)) (bookings : AreBookings rows) (bookings' : AreBookings rows') where
  abbrev begun : World
  begun = world_opening rows assigned script

  abbrev now : World
  now = world_after es begun

  goes_there : AgreesWith now.exchange rows' assigned' → world_after es (world_opening rows' assigned' script) ≡ with_exchange now (changed rows' assigned' now.exchange)
  goes_there x =
      let day = day_near es begun in
      let agrees : AgreesWith (live_day_after (near es begun) (opening rows assigned)) rows' assigned' = subst (λ (d : Day). AgreesWith d rows' assigned') day x in
      same_world es begun (opening rows' assigned') (changed_said rows assigned rows' assigned' (near es begun) bookings bookings' agrees)
      ∙ ap (with_exchange now) (changed_day rows assigned rows' assigned' (near es begun) bookings bookings' agrees ∙ ap (changed rows' assigned') (sym day))

-- ---- along the steps

-- the world so far is that of a plan which the channels carry
record IsWorldOfPlan (channels : List Bool) (rows : List Row) (marks : List Bool) (script : List ScriptRow) (w : World) : Type 0 where
  bookings : AreBookings rows
  last : List (Option ℕ)
  one_each : length last ≡ length rows
  accepted : map is_some last ≡ marks
  carried : Carries rows channels (is_accepted last) (channel_at last)
  events : List WorldEvent
  world : w ≡ world_after events (world_opening rows last script)

one_more : (es : List WorldEvent) (e : WorldEvent) (w : World) → world_happens (world_after es w) e ≡ world_after (es ++ e ∷ []) w
one_more [] e w = refl
one_more (x ∷ es) e w = one_more es e (world_happens w x)

module _ (channels : List Bool) (row_on : List ℕ → Row) (script : List ScriptRow) where
  -- its day is that of a last plan
  plan_there : (rows : List Row) (marks : List Bool) (w : World) (h : IsWorldOfPlan channels rows marks script w) → HasLastPlan channels rows marks (near h.events (world_opening rows h.last script)) w.exchange
  plan_there rows marks w h =
      let u = world_opening rows h.last script in
      plan_of channels rows marks h.last (near h.events u) w.exchange h.one_each h.accepted h.bookings h.carried (ap (λ (x : World). x.exchange) h.world ∙ day_near h.events u)

  happened : (rows : List Row) (marks : List Bool) (w : World) (e : WorldEvent) → IsWorldOfPlan channels rows marks script w → IsWorldOfPlan channels rows marks script (world_happens w e)
  happened rows marks w e h = record {
    bookings = h.bookings;
    last = h.last;
    one_each = h.one_each;
    accepted = h.accepted;
    carried = h.carried;
    events = h.events ++ e ∷ [];
    world = ap (λ (x : World). world_happens x e) h.world ∙ one_more h.events e (world_opening rows h.last script);
  }

  amended : (rows : List Row) (marks : List Bool) (w : World) (kind : Amendment) (line : List ℕ) (d1 : Day) → IsWorldOfPlan channels rows marks script w → AmendsDay channels row_on kind line w.exchange d1
      → IsWorldOfPlan channels (rows_amended row_on kind line rows) (marks_amended kind line marks) script (with_exchange w d1)
  amended rows marks w kind line d1 h is =
      let n = next_plan channels rows marks (near h.events (world_opening rows h.last script)) row_on kind line w.exchange d1 (plan_there rows marks w h) is in
      let rows' = rows_amended row_on kind line rows in
      let old = world_after h.events (world_opening rows h.last script) in
      let there : world_after h.events (world_opening rows' n.assigned script) ≡ with_exchange old (changed rows' n.assigned old.exchange) =
      goes_there rows h.last script h.events rows' n.assigned h.bookings n.bookings (subst (λ (x : World). AgreesWith x.exchange rows' n.assigned) h.world n.agrees) in
      record {
        bookings = n.bookings;
        last = n.assigned;
        one_each = n.one_each;
        accepted = n.accepted;
        carried = n.carried;
        events = h.events;
        world = ap (with_exchange w) n.day ∙ ap (λ (x : World). with_exchange x (changed rows' n.assigned x.exchange)) h.world ∙ sym there;
      }

  -- an event of the link amends nothing
  rows_on : (e : WorldEvent) (w : World) (later : List LiveEvent) (rows : List Row) → rows_after row_on (logged_of e w ++ later) rows ≡ rows_after row_on later rows
  rows_on TickExchange w later rows = refl
  rows_on WithoutLink w later rows = refl
  rows_on TickFar w later rows = refl
  rows_on FarWithoutLink w later rows = refl
  rows_on (ToFar n) w later rows = refl
  rows_on (ToExchange n) w later rows = heard (message_nth w.far_sent n) where
    heard : (o : Option Outgoing) → rows_after row_on (logged_from o ++ later) rows ≡ rows_after row_on later rows
    heard None = refl
    heard (Some o) = refl

  marks_on : (e : WorldEvent) (w : World) (later : List LiveEvent) (marks : List Bool) → marks_after (logged_of e w ++ later) marks ≡ marks_after later marks
  marks_on TickExchange w later marks = refl
  marks_on WithoutLink w later marks = refl
  marks_on TickFar w later marks = refl
  marks_on FarWithoutLink w later marks = refl
  marks_on (ToFar n) w later marks = refl
  marks_on (ToExchange n) w later marks = heard (message_nth w.far_sent n) where
    heard : (o : Option Outgoing) → marks_after (logged_from o ++ later) marks ≡ marks_after later marks
    heard None = refl
    heard (Some o) = refl

  along : (steps : List WorldStep) (logged : List LiveEvent) (rows : List Row) (marks : List Bool) (w now : World) → IsWorldOfPlan channels rows marks script w → StepsLead channels row_on steps logged w now
      → IsWorldOfPlan channels (rows_after row_on logged rows) (marks_after logged marks) script now
  along [] logged rows marks w now h (none, same) =
      subst (λ (l : List LiveEvent). IsWorldOfPlan channels (rows_after row_on l rows) (marks_after l marks) script now) (sym none) (subst (IsWorldOfPlan channels rows marks script) (sym same) h)
  along (Happens event ∷ steps) logged rows marks w now h (later, are, rest) =
      let there = along steps later rows marks (world_happens w event) now (happened rows marks w event h) rest in
      subst (λ (l : List LiveEvent). IsWorldOfPlan channels (rows_after row_on l rows) (marks_after l marks) script now) (sym are)
      (subst (λ (ms : List Bool). IsWorldOfPlan channels (rows_after row_on (logged_of event w ++ later) rows) ms script now) (sym (marks_on event w later marks))
      (subst (λ (rs : List Row). IsWorldOfPlan channels rs (marks_after later marks) script now) (sym (rows_on event w later rows)) there))
  along (Amends kind line ∷ steps) logged rows marks w now h (later, are, d1, is, rest) =
      subst (λ (l : List LiveEvent). IsWorldOfPlan channels (rows_after row_on l rows) (marks_after l marks) script now) (sym are)
      (along steps later (rows_amended row_on kind line rows) (marks_amended kind line marks) (with_exchange w d1) now (amended rows marks w kind line d1 h is) rest)

  -- ---- the exchange goes through what is logged

  through_one : (e : WorldEvent) (w : World) (later : List LiveEvent) (d : Day) → RunsThrough channels row_on later (world_happens w e).exchange d → RunsThrough channels row_on (logged_of e w ++ later) w.exchange d
  through_one TickExchange w later d rest = rest
  through_one WithoutLink w later d rest = rest
  through_one TickFar w later d rest = rest
  through_one FarWithoutLink w later d rest = rest
  through_one (ToFar n) w later d rest = heard (message_nth w.sent n) rest where
    heard : (o : Option Outgoing) → RunsThrough channels row_on later (comes_to_far w o).exchange d → RunsThrough channels row_on later w.exchange d
    heard None rest = rest
    heard (Some o) rest = rest
  through_one (ToExchange n) w later d rest = heard (message_nth w.far_sent n) rest where
    heard : (o : Option Outgoing) → RunsThrough channels row_on later (comes_to_exchange w o).exchange d → RunsThrough channels row_on (logged_from o ++ later) w.exchange d
    heard None rest = rest
    heard (Some o) rest = rest

  through : (steps : List WorldStep) (logged : List LiveEvent) (w now : World) → StepsLead channels row_on steps logged w now → RunsThrough channels row_on logged w.exchange now.exchange
  through [] logged w now (none, same) =
      subst (λ (l : List LiveEvent). RunsThrough channels row_on l w.exchange now.exchange) (sym none) (ap (λ (x : World). x.exchange) same)
  through (Happens event ∷ steps) logged w now (later, are, rest) =
      subst (λ (l : List LiveEvent). RunsThrough channels row_on l w.exchange now.exchange) (sym are)
      (through_one event w later now.exchange (through steps later (world_happens w event) now rest))
  through (Amends kind line ∷ steps) logged w now (later, are, d1, is, rest) =
      subst (λ (l : List LiveEvent). RunsThrough channels row_on l w.exchange now.exchange) (sym are)
      (d1, is, through steps later (with_exchange w d1) now rest)

  agree : IsChannelSet channels → AreScriptRows script → (rows : List Row) (marks : List Bool) (w : World) → IsWorldOfPlan channels rows marks script w → IsAmendedWorld rows marks w
  agree set fits rows marks w h =
      let p = plan_there rows marks w h in
      record {
        rows_are = p.rows_are;
        marks_are = p.marks_are;
        outward = subst (λ (x : World). IsTwoEnds rows x) (sym h.world) (two_ends_hold rows channels h.last script h.events h.bookings set h.carried fits);
        inward = subst IsTwoEndsInward (sym h.world) (inward_ends_hold rows channels h.last script h.events h.bookings set h.carried fits);
      }

pub two_ends_amended : IsOneDayByJournal → TwoEndsAmended
two_ends_amended one_day rows channels assigned script row_on steps logged w bookings set carried fits count lead = (
  agree channels row_on script set fits (rows_after row_on logged rows) (marks_after logged (map is_some assigned)) w
      (along channels row_on script steps logged rows (map is_some assigned) (world_opening rows assigned script) w
      (record { bookings = bookings; last = assigned; one_each = count; accepted = refl; carried = carried; events = []; world = refl }) lead),
  λ d run. one_day channels row_on logged (opening rows assigned) w.exchange d (through channels row_on script steps logged (world_opening rows assigned script) w lead) run,
)
