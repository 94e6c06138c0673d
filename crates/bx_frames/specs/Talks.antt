-- What an end hears in the octets that come.
use Rattle.std.specs.Prelude.{ℕ, zero, suc, ◌==◌, Bool, true, false, List, [], ◌∷◌, ◌++◌, if◌then◌else◌, Result, Ok, Err}
use Rattle.bx_events.specs.Events.{Event, Receive}
use Rattle.bx_frames.specs.Frames.{Found, frame_in}
use Rattle.bx_frames.specs.declared.fault.LinkFault.{LinkFault}
use Rattle.bx_frames.specs.declared.fault.LinkFault.TheVariants.{MoreThan64Messages, WrongMoment}
use Rattle.bx_frames.specs.declared.frame.Receiver.{Receiver}
use Rattle.bx_frames.specs.declared.frame.Frame.{Frame}
use Rattle.bx_frames.specs.declared.frame.Frame.TheVariants as frames

-- what happens; how it ends: with an end of turn (true), with the end of the day (false), or by a fault; the octets
-- that are left after what was looked at; and those after the last frame that was heard
pub record Talk : Type 0 where
  pub events : List Event
  pub ending : Result Bool LinkFault
  pub rest : List ℕ
  pub following : List ℕ

-- nothing more happens
abbrev pub stop : Result Bool LinkFault → List ℕ → List ℕ → Talk
stop ending rest following = record { events = []; ending = ending; rest = rest; following = following }

abbrev pub with_events : List Event → Talk → Talk
with_events events talk = record talk { events = events ++ talk.events }

-- ---- one turn

-- by the next frame of the text, where the turn ends at this moment
abbrev pub turn_by : ℕ → (List ℕ → Talk) → List ℕ → Result Frame LinkFault → List ℕ → Talk
turn_by moment more text (Ok (frames.Message octets)) rest = with_events (Receive octets.items ∷ []) (more rest)
turn_by moment more text (Ok (frames.EndOfTurn said)) rest = if said == moment then stop (Ok true) rest rest else stop (Err WrongMoment) rest text
turn_by moment more text (Ok frames.EndOfDay) rest = stop (Ok false) rest rest
turn_by moment more text (Err fault) rest = stop (Err fault) rest text

abbrev pub turn_from : ℕ → (List ℕ → Talk) → List ℕ → Found Frame → Talk
turn_from moment more text first = turn_by moment more text first.answer first.rest

-- a turn in which so many messages may still come
unfoldable pub turn_in : Receiver → ℕ → ℕ → List ℕ → Talk
turn_in receiver moment zero text = turn_from moment (λ rest. stop (Err MoreThan64Messages) rest rest) text (frame_in receiver 0 text)
turn_in receiver moment (suc room) text = turn_from moment (turn_in receiver moment room) text (frame_in receiver (suc room) text)
