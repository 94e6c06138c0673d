-- What both ends and their devices are after several turns, and after a day.
use Rattle.std.specs.Prelude.{◌≡◌, ℕ, ◌+◌, ◌≤◌, ◌<◌, Bool, true, false, List, Option, Result, Ok, Err, ◌⊎◌, min}
use Rattle.bx_devices.specs.declared.watched.Watched.{Watched}
use Rattle.bx_far.specs.FarDay.{FarDay}
use Rattle.bx_frames.specs.Courses.{ticks_of}
use Rattle.bx_far.specs.Course.{far_next, far_text}
use Rattle.bx_link.specs.Talking.{far_talk_in}
use Rattle.bx_frames.specs.Heard.{Went}
use Rattle.bx_frames.specs.declared.fault.LinkFault.{LinkFault}
use Rattle.bx_frames.specs.declared.fault.LinkFault.TheVariants.{Closed}
use Rattle.bx_frames.specs.declared.frame.Receiver.TheVariants.{FarEnd}
use Rattle.bx_events.specs.declared.moment.TheConstants.{LAST_MOMENT}

-- ---- several turns of the far end

-- of so many turns each had its tick, but for one that was the end of the day or had a fault
abbrev pub turns_taken : ℕ → Result Bool LinkFault → ℕ → Type 0
turns_taken turns (Ok true) n = n ≡ turns
turns_taken turns (Ok false) n = n + 1 ≡ turns
turns_taken turns (Err fault) n = (0 < turns) × (n ≤ turns)

-- a far end took so many turns of a session
abbrev pub FarTalks : {R W : Type 0} → (R → Option (List ℕ)) → (W → Option (List ℕ)) → ℕ → Watched R → Watched R → Watched W → Watched W → FarDay → FarDay → Result Bool LinkFault → Type 0
FarTalks remaining contents turns r r' w w' d d' result = Went FarEnd far_next far_text (far_talk_in turns d) (turns_taken turns) remaining contents r r' w w' d d' result

-- the most turns that are counted
abbrev pub most_turns : ℕ
most_turns = 18446744073709551615

-- how a day of the far end ends: with the end of the day, or by the fault of a turn
abbrev pub EndsFarDay : Result (Unit {0}) LinkFault → ℕ → Result Bool LinkFault → Type 0
EndsFarDay (Ok _) turns ending = ending ≡ Ok false
EndsFarDay (Err fault) turns ending = (ending ≡ Err fault) ⊎ (((ending ≡ Ok true) × (turns ≡ most_turns)) × (fault ≡ Closed))

-- a far end took turns until its day ended; the moment that it has reached tells how many of them had a tick
pub record RunsFarDay {R W : Type 0} (remaining : R → Option (List ℕ)) (contents : W → Option (List ℕ)) (r r' : Watched R) (w w' : Watched W) (d d' : FarDay) (result : Result (Unit {0}) LinkFault) : Type 0 where
  pub turns : ℕ
  pub ending : Result Bool LinkFault
  pub talks : FarTalks remaining contents turns r r' w w' d d' ending
  pub moment : d.moment ≤ LAST_MOMENT → d'.moment ≡ min (d.moment + ticks_of talks.events) LAST_MOMENT
  pub ends : EndsFarDay result turns ending
