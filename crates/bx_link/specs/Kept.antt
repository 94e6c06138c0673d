-- What each end has kept of the events that it went through.
use Rattle.std.specs.Prelude.{ℕ, List, Bool, Option, Result, ◌≡◌, false}
use Rattle.bx_devices.specs.declared.watched.Watched.{Watched}
use Rattle.bx_events.specs.Events.{Event}
use Rattle.bx_far.specs.FarDay.{FarDay}
use Rattle.bx_frames.specs.declared.fault.LinkFault.{LinkFault}
use Rattle.bx_link.specs.Days.{RunsFarDay}
use Rattle.bx_link.specs.Hearing.{TakesTurn}
use Rattle.bx_link.specs.Sessions.{is_far_over}
use Rattle.bx_link.specs.declared.far_session.FarSession.{FarSession}

-- a far end took a turn, and kept its events
abbrev pub TakesTurnKept : {E R W : Type 0} →
    (E → FarDay) → (E → List Event → E → Type 0) →
    (R → Option (List ℕ)) → (W → Option (List ℕ)) →
    E → E → Watched R → Watched R → Watched W → Watched W → Result Bool LinkFault → Type 0
TakesTurnKept day kept remaining contents e e' r r' w w' result =
    (took : TakesTurn remaining contents r r' w w' (day e) (day e') result) ×
    kept e took.events e'

-- the same, where the session was not over before
abbrev pub TakesTurnIfOpen : {E R W : Type 0} → FarSession →
    (E → FarDay) → (E → List Event → E → Type 0) →
    (R → Option (List ℕ)) → (W → Option (List ℕ)) →
    E → E → Watched R → Watched R → Watched W → Watched W → Result Bool LinkFault → Type 0
TakesTurnIfOpen session day kept remaining contents e e' r r' w w' result =
    is_far_over session ≡ false → TakesTurnKept day kept remaining contents e e' r r' w w' result

-- it went through a day, and kept its events
abbrev pub RunsFarDayKept : {E R W : Type 0} →
    (E → FarDay) → (E → List Event → E → Type 0) →
    (R → Option (List ℕ)) → (W → Option (List ℕ)) →
    E → E → Watched R → Watched R → Watched W → Watched W → Result (Unit {0}) LinkFault → Type 0
RunsFarDayKept day kept remaining contents e e' r r' w w' result =
    (ran : RunsFarDay remaining contents r r' w w' (day e) (day e') result) ×
    kept e ran.talks.events e'
