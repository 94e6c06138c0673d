-- Private: several turns of the exchange, while it keeps something of them.
use Rattle.std.specs.Prelude.{ℕ, List, Option, Result}
use Rattle.bx_day.specs.Day.{Day}
use Rattle.bx_devices.specs.declared.watched.Watched.{Watched}
use Rattle.bx_events.specs.Events.{Event}
use Rattle.bx_frames.specs.declared.fault.LinkFault.{LinkFault}
use Rattle.bx_sessions.specs.Days.{Talks}
use Rattle.bx_sessions.specs.Hearing.{turned}

-- an exchange went through so many turns, and kept their events
abbrev pub TalksKept : {E R W : Type 0} →
    (E → Day) → (E → List Event → E → Type 0) →
    (R → Option (List ℕ)) → (W → Option (List ℕ)) →
    ℕ → E → E → Watched R → Watched R → Watched W → Watched W → Result (Unit {0}) LinkFault → Type 0
TalksKept day kept remaining contents turns e e' r r' w w' result =
    (talked : Talks remaining contents turns r r' w w' (day e) (day e') (turned result)) ×
    kept e talked.events e'
