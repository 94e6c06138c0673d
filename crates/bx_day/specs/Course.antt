-- The exchange as an end of the link: for a tick its messages and the end of the turn are written, for a message the reply to it.
use Rattle.std.specs.Prelude.{ℕ, List, [], ◌∷◌, ◌++◌, Option, Some, None}
use Rattle.arrayvec.specs.ArrayVec.{ArrayVec}
use Rattle.bx_events.specs.Events.{Event, Tick, Receive}
use Rattle.bx_frames.specs.Frames.{frames_of, turn_frame}
use Rattle.bx_q931.specs.Restarts.{acknowledgement_at}
use Rattle.bx_calls.specs.Sending.{reply_list, spelled}
use Rattle.bx_day.specs.Day.{Day}
use Rattle.bx_day.specs.Ticks.{tick}
use Rattle.bx_day.specs.Run.{receive_octets, happens}

abbrev pub exchange_next : Day → Event → Day
exchange_next d e = (happens d e).day

-- a RESTART has the global reference, so the day makes nothing of it: it is acknowledged beside the day
abbrev pub answered_with : Option (List ℕ) → List (ArrayVec ℕ) → List (ArrayVec ℕ)
answered_with (Some acknowledgement) replies = record { items = acknowledgement } ∷ []
answered_with None replies = replies

-- the messages that it sends
abbrev pub exchange_sent : Day → Event → List (ArrayVec ℕ)
exchange_sent d Tick = spelled (tick d).sent
exchange_sent d (Receive octets) = answered_with (acknowledgement_at octets) (spelled (reply_list (receive_octets d octets).reply))

abbrev pub exchange_text : Day → Event → List ℕ
exchange_text d Tick = frames_of (exchange_sent d Tick) ++ turn_frame (tick d).day.moment
exchange_text d (Receive octets) = frames_of (exchange_sent d (Receive octets))
