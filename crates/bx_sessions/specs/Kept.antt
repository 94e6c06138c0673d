-- What each end has kept of the events that it went through.
use Rattle.std.specs.Prelude.{ℕ, ◌-◌, List, Bool, Option, Result, min, ◌≡◌, false}
use Rattle.bx_day.specs.Day.{Day}
use Rattle.bx_devices.specs.declared.watched.Watched.{Watched}
use Rattle.bx_events.specs.Events.{Event}
use Rattle.bx_events.specs.declared.moment.TheConstants.{LAST_MOMENT}
use Rattle.bx_far.specs.FarDay.{FarDay}
use Rattle.bx_frames.specs.declared.fault.LinkFault.{LinkFault}
use Rattle.bx_sessions.specs.BothEnds.{Passage, RunsBoth, events_of_near}
use Rattle.bx_sessions.specs.Days.{RunsDay, events_of_day}
use Rattle.bx_sessions.specs.Hearing.{Hears, turned}
use Rattle.bx_sessions.specs.Sessions.{is_closed}
use Rattle.bx_sessions.specs.declared.session.Session.{Session}

-- an exchange heard the turn that it had opened, and kept what it heard
abbrev pub HearsKept : {E R W : Type 0} →
    (E → Day) → (E → List Event → E → Type 0) →
    (R → Option (List ℕ)) → (W → Option (List ℕ)) →
    E → E → Watched R → Watched R → Watched W → Watched W → Result (Unit {0}) LinkFault → Type 0
HearsKept day kept remaining contents e e' r r' w w' result =
    (heard : Hears remaining contents r r' w w' (day e) (day e') result) ×
    kept e heard.events e'

-- the same, where the session was not closed before
abbrev pub HearsIfOpen : {E R W : Type 0} → Session →
    (E → Day) → (E → List Event → E → Type 0) →
    (R → Option (List ℕ)) → (W → Option (List ℕ)) →
    E → E → Watched R → Watched R → Watched W → Watched W → Result (Unit {0}) LinkFault → Type 0
HearsIfOpen session day kept remaining contents e e' r r' w w' result =
    is_closed session ≡ false → HearsKept day kept remaining contents e e' r r' w w' result

-- it went through a day of so many turns, or of as many as there are to the last moment, and kept its events
abbrev pub RunsDayKept : {E R W : Type 0} →
    (E → Day) → (E → List Event → E → Type 0) →
    (R → Option (List ℕ)) → (W → Option (List ℕ)) →
    ℕ → E → E → Watched R → Watched R → Watched W → Watched W → Result (Unit {0}) LinkFault → Type 0
RunsDayKept day kept remaining contents turns e e' r r' w w' result =
    (ran : RunsDay remaining contents (min turns (LAST_MOMENT - (day e).moment)) r r' w w' (day e) (day e') (turned result)) ×
    kept e (events_of_day ran) e'

-- both ends went through a day of so many turns, and the exchange kept its events
abbrev pub RunsBothKept : {E R W S T : Type 0} →
    (E → Day) → (E → List Event → E → Type 0) →
    ℕ → E → E → Passage Day R W → Passage FarDay S T → Result Bool LinkFault → Type 0
RunsBothKept day kept turns e e' near far result =
    (ran : RunsBoth turns near far result) ×
    kept e (events_of_near ran) e'
