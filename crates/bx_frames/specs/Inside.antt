-- Private: what its functions promise one another.
use Rattle.std.specs.Prelude.{ℕ, ◌≡◌, ◌<◌, List, length, Option}
use Rattle.bx_frames.specs.declared.frame.FrameKind.{FrameKind}
use Rattle.bx_frames.specs.declared.frame.FrameKind.TheVariants as kinds
use Rattle.bx_frames.specs.declared.frame.Frame.{Frame}
use Rattle.std.specs.Io.KnownBytes.{Consumes}
use Rattle.bx_devices.specs.Watching.{device_of}
use Rattle.bx_devices.specs.declared.watched.Watched.{Watched}
use Rattle.bx_frames.specs.declared.frame.Frame.TheVariants as frames

-- which frames come of a kind
abbrev pub ComesAs : FrameKind → ℕ → Frame → Type 0
ComesAs kind room (frames.Message octets) = 0 < room
ComesAs kind room (frames.EndOfTurn moment) = Unit {0}
ComesAs kind room frames.EndOfDay = kind ≡ kinds.EndOfDay

-- fewer octets than this were read before a read failed
abbrev pub ReadsFewerThan : {R : Type 0} → (R → Option (List ℕ)) → ℕ → Watched R → Watched R → Type 0
ReadsFewerThan remaining count old new =
    (read : List ℕ) × (length read < count) × Consumes (remaining (device_of old)) (remaining (device_of new)) read
