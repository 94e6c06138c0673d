-- What may be written to a peer.
use Rattle.std.specs.Prelude.{◌≡◌, ◌⊎◌, ℕ, ◌&&◌, Bool, true, List, [], ◌∷◌, ◌++◌}
use Rattle.std.specs.List.{concat}
use Rattle.bx_events.specs.Events.{Event, Receive, LiveEvent, OnLink, WithoutLink, Amended, HeardByRulesTwo}
use Rattle.bx_day.specs.Day.{Day}
use Rattle.bx_day.specs.Course.{exchange_sent, exchange_text}
use Rattle.bx_day.specs.Outages.{live_happens, live_day_after}
use Rattle.bx_live.specs.Acts.{Act, Logged, Synced, Wrote, logged_by}
use Rattle.bx_live.specs.Runs.{Place, Between, Receiving, Taking, Owing, IsRun, day_at}

-- the events that are on the disk, and those that were logged after the last sync
pub record Filed : Type 0 where
  pub disk : List LiveEvent
  pub more : List LiveEvent

abbrev pub filed_by : List Act → Filed → Filed
filed_by [] f = f
filed_by (Logged event true ∷ acts) f = filed_by acts (record { disk = f.disk; more = f.more ++ event ∷ [] })
filed_by (Synced true ∷ acts) f = filed_by acts (record { disk = f.disk ++ f.more; more = [] })
filed_by (act ∷ acts) f = filed_by acts f

abbrev pub filed : List Act → Filed
filed acts = filed_by acts (record { disk = []; more = [] })

-- only messages that came
abbrev pub AreHeard : List LiveEvent → Type 0
AreHeard [] = Unit {0}
AreHeard (OnLink (Receive octets) ∷ events) = AreHeard events
AreHeard (event ∷ events) = ⊥

-- octets that are written after these acts: they are those of a logged event, by the day as it was before it. No second has begun
-- since, and where messages are among them all that is logged is on the disk
pub record IsWrittenFor (d : Day) (acts : List Act) (octets : List ℕ) : Type 0 where
  pub earlier : List LiveEvent
  pub event : Event
  pub later : List LiveEvent
  pub on_log : logged_by acts ≡ earlier ++ OnLink event ∷ later
  pub heard : AreHeard later
  pub text : octets ≡ exchange_text (live_day_after earlier d) event
  pub synced : (exchange_sent (live_day_after earlier d) event ≡ []) ⊎ ((filed acts).more ≡ [])

-- ---- all that is written

-- what is written for an event: nothing, in a second without a link, where the plan is amended, or for what came by the rules 2, which no
-- run logs
abbrev pub live_text : Day → LiveEvent → List ℕ
live_text d (OnLink event) = exchange_text d event
live_text d (WithoutLink rules) = []
live_text d (Amended kind line) = []
live_text d (HeardByRulesTwo octets) = []

abbrev pub live_told : List LiveEvent → Day → List ℕ
live_told [] d = []
live_told (event ∷ events) d = live_text d event ++ live_told events (live_happens d event).day

-- what was written whole
abbrev pub written : List Act → List ℕ
written [] = []
written (Wrote octets true ∷ acts) = octets ++ written acts
written (act ∷ acts) = written acts

-- no logging, sync or write failed
abbrev pub goes_well : List Act → Bool
goes_well [] = true
goes_well (Logged event done ∷ acts) = done && goes_well acts
goes_well (Synced done ∷ acts) = done && goes_well acts
goes_well (Wrote octets done ∷ acts) = done && goes_well acts
goes_well (act ∷ acts) = goes_well acts

-- what is still to be written
abbrev pub owed_at : Place → List ℕ
owed_at (Receiving d room owed octets) = concat owed
owed_at (Taking d room owed) = concat owed
owed_at (Owing d room unsynced texts) = concat texts
owed_at p = []

-- ---- of every run

-- whatever is written, at any place of it
abbrev pub AllIsLogged : Type 0
AllIsLogged =
    (d : Day) (before following : List Act) (octets : List ℕ) (done : Bool) (to : Place)
    → IsRun (Between d) (before ++ Wrote octets done ∷ following) to → IsWrittenFor d before octets

-- what is written, with what is still owed, is what was owed before, with what is told for the logged events
abbrev pub AllIsWritten : Type 0
AllIsWritten =
    (from to : Place) (acts : List Act) → IsRun from acts to → goes_well acts ≡ true
    → written acts ++ owed_at to ≡ owed_at from ++ live_told (logged_by acts) (day_at from)
