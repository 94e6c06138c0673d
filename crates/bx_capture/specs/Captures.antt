-- What a capture has of the events of an end's day.
use Rattle.std.specs.Prelude.{◌≡◌, ℕ, ◌+◌, ⊤, Bool, true, false, not, List, ◌++◌, Option, Some, None}
use Rattle.std.specs.List.{flat_map}
use Rattle.std.specs.Io.KnownBytes.{Appends}
use Rattle.arrayvec.specs.ArrayVec.{ArrayVec}
use Rattle.bx_devices.specs.declared.watched.Watched.{Watched}
use Rattle.bx_devices.specs.Watching.{device_of, is_faulted}
use Rattle.bx_devices.specs.Octets.{AppendsPrefix}
use Rattle.bx_events.specs.Events.{Event, Tick, Receive}
use Rattle.bx_frames.specs.Courses.{after, told}
use Rattle.bx_capture.specs.Packets.{packet}
use Rattle.bx_capture.specs.declared.packet.Direction.TheVariants.{Sent, Received}

-- the packet of a message that is sent
abbrev pub packet_sent : ℕ → ArrayVec ℕ → List ℕ
packet_sent second message = packet second Sent message.items

-- the packets of an event: of the message that comes, at the second of the turn in which it is heard, and of each that is
-- sent for it; of a tick the messages that are sent then, at the second that the tick reaches. Moments count from the first
-- second
abbrev pub packets_for : {D : Type 0} → (D → Event → D) → (D → Event → List (ArrayVec ℕ)) → (D → ℕ) → (D → ℕ) → ℕ → D → Event → List ℕ
packets_for next sent moment turn first d Tick = flat_map (packet_sent (first + moment (next d Tick))) (sent d Tick)
packets_for next sent moment turn first d (Receive octets) = packet (first + turn d) Received octets ++ flat_map (packet_sent (first + turn d)) (sent d (Receive octets))

-- the file took these packets; or a write of them failed, and it took a prefix of them. After a write that failed nothing is
-- written
pub record IsKept {W : Type 0} (contents : W → Option (List ℕ)) (w w' : Watched W) (packets : List ℕ) : Type 0 where
  pub whole : is_faulted w' ≡ false → Appends (contents (device_of w)) (contents (device_of w')) packets
  pub part : AppendsPrefix (contents (device_of w)) (contents (device_of w')) packets
  pub stopped : is_faulted w ≡ true → w' ≡ w

-- no write of it has failed
abbrev pub is_unfaulted : {W : Type 0} → Option (Watched W) → Bool
is_unfaulted None = true
is_unfaulted (Some w) = not (is_faulted w)

-- where there is a file
abbrev pub Keeps : {W : Type 0} → (W → Option (List ℕ)) → Option (Watched W) → Option (Watched W) → List ℕ → Type 0
Keeps contents None None packets = ⊤
Keeps contents (Some w) (Some w') packets = IsKept contents w w' packets
Keeps contents file file' packets = ⊥

-- the day went on by these events, and the file took the packets of each, which count from the same first second
pub record IsCaptured {D W : Type 0} (next : D → Event → D) (packets : ℕ → D → Event → List ℕ) (contents : W → Option (List ℕ)) (first first' : ℕ) (file file' : Option (Watched W)) (d d' : D) (events : List Event) : Type 0 where
  pub day : d' ≡ after next events d
  pub stays : first' ≡ first
  pub kept : Keeps contents file file' (told next (packets first) events d)
