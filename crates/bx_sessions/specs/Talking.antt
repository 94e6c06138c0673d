-- Turns and days: what each end hears in the octets that come.
use Rattle.std.specs.Prelude.{ℕ, zero, suc, true, List, [], ◌∷◌, Ok}
use Rattle.bx_day.specs.Day.{Day}
use Rattle.bx_events.specs.Events.{Tick}
use Rattle.bx_frames.specs.Courses.{after}
use Rattle.bx_frames.specs.Talks.{Talk, stop, with_events, turn_in}
use Rattle.bx_day.specs.Course.{exchange_next}
use Rattle.bx_link.specs.Talking.{follow_talk}
use Rattle.bx_frames.specs.declared.frame.Receiver.TheVariants.{Exchange}
use Rattle.bx_frames.specs.declared.turn.TheConstants.{MAX_MESSAGES}

-- ---- the exchange

-- what it hears when its turn is open
abbrev pub exchange_turn : Day → List ℕ → Talk
exchange_turn d text = turn_in Exchange d.moment MAX_MESSAGES text

-- so many turns from a day on, each opened by a tick
unfoldable pub talk_in : ℕ → Day → List ℕ → Talk
talk_in zero d text = stop (Ok true) text text
talk_in (suc turns) d text =
    let first = exchange_turn (exchange_next d Tick) text in
    with_events (Tick ∷ []) (follow_talk first (λ events. talk_in turns (after exchange_next events (exchange_next d Tick))) first)
