-- Private: how the functions of a run end.
use Rattle.std.specs.Prelude.{◌≡◌, ℕ, ◌+◌, ◌<◌, true, List, [], ◌∷◌, map, Result, Ok, Err, ◌++◌, false}
use Rattle.arrayvec.specs.ArrayVec.{ArrayVec}
use Rattle.bx_day.specs.Day.{Day}
use Rattle.bx_devices.specs.declared.octets.WriteFailed.{WriteFailed}
use Rattle.bx_frames.specs.Frames.{frame_with, frames_of, turn_frame}
use Rattle.bx_frames.specs.declared.fault.LinkFault.TheVariants.{WriteFailed as Unwritten}
use Rattle.bx_live.specs.declared.world.CannotLog.{CannotLog}
use Rattle.bx_live.specs.declared.world.Loss.TheVariants as losses
use Rattle.bx_live.specs.declared.turn.Stop.{Stop}
use Rattle.bx_live.specs.declared.turn.Stop.TheVariants as stops
use Rattle.bx_live.specs.Runs.{Place, Hearing, Owing, Losing, Over, Receiving, owing, replying}
use Rattle.bx_events.specs.declared.moment.TheConstants.{LAST_MOMENT}
use Rattle.bx_live.specs.Acts.{Act}
use Rattle.bx_live.specs.Running.{RunsInside, or_over}

-- the place after what went well, or broke off
abbrev pub or_stopped : {A : Type 0} → Place → Day → Result A Stop → Place
or_stopped place d (Ok _) = place
or_stopped place d (Err (stops.Link fault)) = Losing d (losses.Fault fault)
or_stopped place d (Err stops.Log) = Over d

abbrev pub RisesByTurn : {A : Type 0} → Day → Day → Result A Stop → Type 0
RisesByTurn d d1 (Ok _) = d.moment < LAST_MOMENT → d1.moment ≡ d.moment + 1
RisesByTurn d d1 (Err (stops.Link fault)) = d.moment < LAST_MOMENT → d1.moment ≡ d.moment + 1
RisesByTurn d d1 (Err stops.Log) = Unit {0}

-- where a write fails the peer is to be dropped
abbrev pub or_lost : Place → Day → Result (Unit {0}) WriteFailed → Place
or_lost place d (Ok _) = place
or_lost place d (Err _) = Losing d (losses.Fault Unwritten)

-- what is written for replies
abbrev pub texts_of : List (ArrayVec ℕ) → List (List ℕ)
texts_of replies = map frame_with replies

-- replies are to be written after a sync, where there are some
abbrev pub owing_replies : Day → ℕ → List (List ℕ) → Place
owing_replies d room [] = Hearing d room
owing_replies d room (text ∷ texts) = Owing d room true (text ∷ texts)

-- messages that came together were heard, so many may still come; or one could not be logged
abbrev pub gathered : Day → List (List ℕ) → Result ℕ CannotLog → Place
gathered d texts (Ok left) = owing_replies d left texts
gathered d texts (Err fault) = Over d

-- and what is replied to them was written
abbrev pub heard_with : Day → Result ℕ Stop → Place
heard_with d (Ok left) = Hearing d left
heard_with d (Err (stops.Link fault)) = Losing d (losses.Fault fault)
heard_with d (Err stops.Log) = Over d

-- ---- runs inside of a second

module _ {W : Type 0} (did : W → List Act → W → Type 0) (old new : W) where
  -- what was logged is on the disk before messages are written with the end of a turn
  abbrev pub SyncsBefore : List (ArrayVec ℕ) → Result (Unit {0}) CannotLog → Type 0
  SyncsBefore sent result =
      (d : Day) (room moment : ℕ)
      → RunsInside did old new (owing d room sent (frames_of sent ++ turn_frame moment)) (or_over (Owing d room false ((frames_of sent ++ turn_frame moment) ∷ [])) d result)

  -- a message was heard; replies were owed before, and are after it
  abbrev pub HearsOne : Day → List (ArrayVec ℕ) → List ℕ → Day → List (ArrayVec ℕ) → Result (Unit {0}) CannotLog → Type 0
  HearsOne d owed octets d1 owed1 result =
      (room : ℕ) → RunsInside did old new (Receiving d room (texts_of owed) octets) (or_over (replying d1 (texts_of owed1) room) d1 result)

  -- messages were heard from this one on
  abbrev pub HearsFrom : Day → ℕ → List ℕ → Day → List (ArrayVec ℕ) → Result ℕ CannotLog → Type 0
  HearsFrom d room octets d1 owed result = RunsInside did old new (Receiving d room [] octets) (gathered d1 (texts_of owed) result)

  -- the replies that are owed were written, after one sync
  abbrev pub WritesReplies : List (ArrayVec ℕ) → Result (Unit {0}) Stop → Type 0
  WritesReplies replies result =
      (d : Day) (room : ℕ) → RunsInside did old new (owing_replies d room (texts_of replies)) (or_stopped (Hearing d room) d result)
