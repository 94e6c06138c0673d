-- What a capture has of a run: the messages that went over its link.
use Rattle.std.specs.Prelude.{◌≡◌, ℕ, ◌+◌, min, Bool, List, [], ◌∷◌, ◌++◌, Option, Some, Ok}
use Rattle.std.specs.List.{flat_map}
use Rattle.arrayvec.specs.ArrayVec.{ArrayVec}
use Rattle.bx_capture.specs.Captures.{packet_sent, Keeps, is_unfaulted}
use Rattle.bx_capture.specs.Packets.{packet}
use Rattle.bx_capture.specs.declared.packet.Direction.TheVariants.{Received}
use Rattle.bx_devices.specs.declared.watched.Watched.{Watched}
use Rattle.bx_frames.specs.declared.frame.Frame.TheVariants as frames
use Rattle.bx_live.specs.Acts.{Act, Began, Wrote, Read, Took}
use Rattle.bx_world.specs.Captures.{AreFramesOf}
use Rattle.bx_events.specs.declared.moment.TheConstants.{LAST_MOMENT}

-- The packets of the messages of acts, one after another: of those whose frames were written, and of each that was read or taken. Each has
-- the second that began last, after the first second; this one did before the acts
abbrev pub ArePackets : ℕ → ℕ → List Act → List ℕ → Type 0
ArePackets first second [] packets = packets ≡ []
ArePackets first second (Began begun begin ∷ acts) packets = ArePackets first (min begun LAST_MOMENT) acts packets
ArePackets first second (Wrote octets done ∷ acts) packets =
    (messages : List (ArrayVec ℕ)) × AreFramesOf messages octets × ((more : List ℕ) × (packets ≡ flat_map (packet_sent (first + second)) messages ++ more) × ArePackets first second acts more)
ArePackets first second (Read room (Ok (frames.Message message)) ∷ acts) packets = (more : List ℕ) × (packets ≡ packet (first + second) Received message.items ++ more) × ArePackets first second acts more
ArePackets first second (Took (Some message) ∷ acts) packets = (more : List ℕ) × (packets ≡ packet (first + second) Received message.items ++ more) × ArePackets first second acts more
ArePackets first second (act ∷ acts) packets = ArePackets first second acts packets

-- where there is a file, it took just the packets of a run, and whether it took them all. A run begins between two seconds, so it
-- has no message in the one before it.
pub record IsRunKept {F : Type 0} (contents : F → Option (List ℕ)) (file : Option (Watched F)) (first : ℕ) (acts : List Act) (is_whole : Bool) : Type 0 where
  pub closed : Option (Watched F)
  pub before : ℕ
  pub packets : List ℕ
  pub of_run : ArePackets first before acts packets
  pub keeps : Keeps contents file closed packets
  pub whole : is_whole ≡ is_unfaulted closed
