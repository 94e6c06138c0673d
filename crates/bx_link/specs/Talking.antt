-- Turns and days: what each end hears in the octets that come.
use Rattle.std.specs.Prelude.{ℕ, zero, suc, Bool, true, false, List, [], ◌∷◌, Result, Ok, Err}
use Rattle.bx_events.specs.Events.{Event, Tick}
use Rattle.bx_far.specs.FarDay.{FarDay}
use Rattle.bx_frames.specs.Courses.{after}
use Rattle.bx_frames.specs.Talks.{Talk, stop, with_events, turn_in}
use Rattle.bx_far.specs.Course.{far_next, far_due}
use Rattle.bx_frames.specs.declared.fault.LinkFault.{LinkFault}
use Rattle.bx_frames.specs.declared.fault.LinkFault.TheVariants.{Closed}
use Rattle.bx_frames.specs.declared.frame.Receiver.TheVariants.{FarEnd}
use Rattle.bx_frames.specs.declared.turn.TheConstants.{MAX_MESSAGES}

-- ---- one after another

abbrev pub follow_by : Result Bool LinkFault → Talk → (List Event → List ℕ → Talk) → Talk → Talk
follow_by (Ok true) first next over = with_events first.events (next first.events first.rest)
follow_by (Ok false) first next over = over
follow_by (Err fault) first next over = first

-- what happens after an end of turn, by what happened before it; and what there is where the day ended
abbrev pub follow_talk : Talk → (List Event → List ℕ → Talk) → Talk → Talk
follow_talk first next over = follow_by first.ending first next over

-- ---- the far end

-- what it hears, and a tick after the end of turn
abbrev pub far_hears : FarDay → List ℕ → Talk
far_hears d text = turn_in FarEnd (far_due d) MAX_MESSAGES text

abbrev pub ticked_talk : List ℕ → Talk
ticked_talk text = record { events = Tick ∷ []; ending = Ok true; rest = text; following = text }

abbrev pub far_turn : FarDay → List ℕ → Talk
far_turn d text = follow_talk (far_hears d text) (λ events. ticked_talk) (far_hears d text)

-- where more turns were to come, the end of the day has closed the session
abbrev pub closed_before : ℕ → Talk → Talk
closed_before zero talk = talk
closed_before (suc turns) talk = record talk { ending = Err Closed }

-- so many turns of a session from a day on; the last of them may be the end of the day
unfoldable pub far_talk_in : ℕ → FarDay → List ℕ → Talk
far_talk_in zero d text = stop (Ok true) text text
far_talk_in (suc turns) d text = follow_talk (far_turn d text) (λ events. far_talk_in turns (after far_next events d)) (closed_before turns (far_turn d text))
