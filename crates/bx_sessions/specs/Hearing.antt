-- What each end and its devices are after one turn.
use Rattle.std.specs.Prelude.{◌≡◌, ℕ, Bool, true, List, [], ◌∷◌, Option, Result, Ok, Err, ◌⊎◌}
use Rattle.bx_frames.specs.Heard.{Tells, Went, no_tick}
use Rattle.bx_devices.specs.declared.watched.Watched.{Watched}
use Rattle.bx_day.specs.Day.{Day}
use Rattle.bx_events.specs.Events.{Tick}
use Rattle.bx_day.specs.Course.{exchange_next, exchange_text}
use Rattle.bx_sessions.specs.Talking.{exchange_turn}
use Rattle.bx_frames.specs.declared.fault.LinkFault.{LinkFault}
use Rattle.bx_frames.specs.declared.fault.LinkFault.TheVariants.{WriteFailed}
use Rattle.bx_frames.specs.declared.frame.Receiver.TheVariants.{Exchange}

-- ---- one turn

-- the answer of a function that answers nothing where it is done
abbrev pub turned : Result (Unit {0}) LinkFault → Result Bool LinkFault
turned (Ok _) = Ok true
turned (Err fault) = Err fault

-- an exchange ticked, and the turn that it opens was written; or a write failed
pub record Opens {W : Type 0} (contents : W → Option (List ℕ)) (w w' : Watched W) (d d' : Day) (result : Result (Unit {0}) LinkFault) : Type 0 where
  pub day : d' ≡ exchange_next d Tick
  pub written : Tells exchange_next exchange_text contents w w' d (Tick ∷ []) (turned result)
  pub answer : (result ≡ Ok tt) ⊎ (result ≡ Err WriteFailed)

-- an exchange heard the turn that it had opened
abbrev pub Hears : {R W : Type 0} → (R → Option (List ℕ)) → (W → Option (List ℕ)) → Watched R → Watched R → Watched W → Watched W → Day → Day → Result (Unit {0}) LinkFault → Type 0
Hears remaining contents r r' w w' d d' result = Went Exchange exchange_next exchange_text (exchange_turn d) no_tick remaining contents r r' w w' d d' (turned result)
