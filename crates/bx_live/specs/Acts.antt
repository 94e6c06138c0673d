-- What the world outside was asked, and what it answered.
use Rattle.std.specs.Prelude.{ℕ, Bool, true, false, List, [], ◌∷◌, Option, Result}
use Rattle.arrayvec.specs.ArrayVec.{ArrayVec}
use Rattle.bx_events.specs.Events.{LiveEvent}
use Rattle.bx_frames.specs.declared.fault.LinkFault.{LinkFault}
use Rattle.bx_frames.specs.declared.frame.Frame.{Frame}
use Rattle.bx_live.specs.declared.world.Begin.{Begin}
use Rattle.bx_live.specs.declared.world.Begin.TheVariants as begins
use Rattle.bx_live.specs.declared.world.Loss.{Loss}

pub data Act : Type 0 where
  -- the instant of a second was waited for, and the second begins so
  Began : (second : ℕ) (begin : Begin) → Act
  -- the peer was dropped, if there was one
  Dropped : (loss : Loss) → Act
  -- an event was logged, or could not be
  Logged : (event : LiveEvent) (done : Bool) → Act
  -- what was logged is on the disk, or could not be brought there
  Synced : (done : Bool) → Act
  -- octets were written to the peer, or not all of them
  Wrote : (octets : List ℕ) (done : Bool) → Act
  -- a frame of the peer was read, where so many messages might still come in the turn; or the first fault
  Read : (room : ℕ) (answer : Result Frame LinkFault) → Act
  -- a message that is there already was taken, or none is there
  Took : (message : Option (ArrayVec ℕ)) → Act
  -- the peer, if there was one, was told that the day is over
  EndedDay : Act

-- the events that are logged
abbrev pub logged_by : List Act → List LiveEvent
logged_by [] = []
logged_by (Logged event true ∷ acts) = event ∷ logged_by acts
logged_by (act ∷ acts) = logged_by acts

-- whether the world said that no second begins any more
abbrev pub ended : List Act → Bool
ended [] = false
ended (Began second begins.Ended ∷ acts) = true
ended (act ∷ acts) = ended acts

-- whether no second begins in these acts
abbrev pub begins_none : List Act → Bool
begins_none [] = true
begins_none (Began second begin ∷ acts) = false
begins_none (act ∷ acts) = begins_none acts
