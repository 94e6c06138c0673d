-- What a capture of a live day has of its acts.
use Rattle.std.specs.Prelude.{◌≡◌, ◌⊎◌, ℕ, ◌+◌, min, List, [], ◌∷◌, ◌++◌, Option, Some, Ok}
use Rattle.std.specs.List.{flat_map}
use Rattle.arrayvec.specs.ArrayVec.{ArrayVec}
use Rattle.bx_capture.specs.Captures.{packet_sent, Keeps}
use Rattle.bx_capture.specs.Packets.{packet}
use Rattle.bx_capture.specs.declared.packet.Direction.TheVariants.{Received}
use Rattle.bx_devices.specs.declared.watched.Watched.{Watched}
use Rattle.bx_frames.specs.Frames.{frames_of, message_frame, turn_frame}
use Rattle.bx_frames.specs.declared.frame.Frame.TheVariants as frames
use Rattle.bx_live.specs.Acts.{Act, Began, Wrote, Read, Took}
use Rattle.bx_world.specs.declared.captured.CapturedWorld.{CapturedWorld}
use Rattle.bx_events.specs.declared.moment.TheConstants.{LAST_MOMENT}

-- the second of the clock that moment 0 has
abbrev pub first_second : {W F : Type 0} → CapturedWorld W F → ℕ
first_second c = c.first

-- these octets are the frame of one message, or those of all that are sent in a second, with the end of the turn
abbrev pub AreFramesOf : List (ArrayVec ℕ) → List ℕ → Type 0
AreFramesOf messages octets = ((message : ArrayVec ℕ) × (messages ≡ message ∷ []) × (octets ≡ message_frame message.items)) ⊎ ((moment : ℕ) × (octets ≡ frames_of messages ++ turn_frame moment))

-- the file after an act at this second of the clock: it has taken the packets of what was written and of the message that was read
abbrev pub OnFile : {F : Type 0} → (F → Option (List ℕ)) → ℕ → Option (Watched F) → Act → Option (Watched F) → Type 0
OnFile contents second old (Wrote octets done) new = (messages : List (ArrayVec ℕ)) × AreFramesOf messages octets × Keeps contents old new (flat_map (packet_sent second) messages)
OnFile contents second old (Read room (Ok (frames.Message message))) new = Keeps contents old new (packet second Received message.items)
OnFile contents second old (Took (Some message)) new = Keeps contents old new (packet second Received message.items)
OnFile contents second old act new = new ≡ old

-- the second of the day is the one that began last
abbrev pub OnSecond : ℕ → Act → ℕ → Type 0
OnSecond old (Began second begin) new = new ≡ min second LAST_MOMENT
OnSecond old act new = new ≡ old

pub record Captures {W F : Type 0} (contents : F → Option (List ℕ)) (old : CapturedWorld W F) (act : Act) (new : CapturedWorld W F) : Type 0 where
  pub file : OnFile contents (old.first + old.second) old.file act new.file
  pub second : OnSecond old.second act new.second
  pub first : new.first ≡ old.first
