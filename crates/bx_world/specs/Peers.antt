-- What is written to a peer at a connection, what is read of it, and how it hears of the end of the day.
use Rattle.std.specs.Prelude.{◌≡◌, ℕ, Bool, true, false, List, Option, Some, None, Result}
use Rattle.std.specs.Io.KnownBytes.{Appends}
use Rattle.bx_devices.specs.Octets.{AppendsPart}
use Rattle.bx_devices.specs.Watching.{device_of}
use Rattle.bx_devices.specs.declared.watched.Watched.{Watched}
use Rattle.bx_frames.specs.Frames.{day_frame, frame_in}
use Rattle.bx_frames.specs.Reading.{Reads}
use Rattle.bx_frames.specs.declared.fault.LinkFault.{LinkFault}
use Rattle.bx_frames.specs.declared.fault.LinkFault.TheVariants.{WriteFailed}
use Rattle.bx_frames.specs.declared.frame.Frame.{Frame}
use Rattle.bx_frames.specs.declared.frame.Receiver.TheVariants.{Exchange}
use Rattle.bx_link.specs.declared.connection.Connection.{Connection}

-- these octets were written, or a prefix of them and not all
abbrev pub Puts : {W : Type 0} → (W → Option (List ℕ)) → Watched W → Watched W → List ℕ → Bool → Type 0
Puts contents old new octets true = Appends (contents (device_of old)) (contents (device_of new)) octets
Puts contents old new octets false = AppendsPart (contents (device_of old)) (contents (device_of new)) octets

-- they were written to the connection
pub record WroteTo {R W : Type 0} (contents : W → Option (List ℕ)) (old : Connection R W) (octets : List ℕ) (done : Bool) (new : Connection R W) : Type 0 where
  pub written : Puts contents old.writer new.writer octets done
  pub unread : new.reader ≡ old.reader

-- a frame was read from it
abbrev pub GaveFrom : {R W : Type 0} → (R → Option (List ℕ)) → Connection R W → ℕ → Result Frame LinkFault → Connection R W → Type 0
GaveFrom remaining old room answer new = Reads remaining old.reader new.reader answer (frame_in Exchange room) × (new.writer ≡ old.writer)

-- the end of the day was written, or could not be
abbrev pub PartedFrom : {R W : Type 0} → (W → Option (List ℕ)) → Connection R W → Option LinkFault → Connection R W → Type 0
PartedFrom contents old None new = WroteTo contents old day_frame true new
PartedFrom contents old (Some fault) new = WroteTo contents old day_frame false new × (fault ≡ WriteFailed)
