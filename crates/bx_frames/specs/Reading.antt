-- What is read from a watched reader, by what a definition finds in the octets that it has left.
use Rattle.std.specs.Prelude.{◌≡◌, ℕ, ◌+◌, ◌≤◌, ◌<◌, min, true, List, [], ◌++◌, Option, Some, Result, Err, ◌⊎◌}
use Rattle.bx_devices.specs.Watching.{device_of, is_faulted, reads_of}
use Rattle.bx_devices.specs.declared.watched.Watched.{Watched}
use Rattle.bx_devices.specs.declared.watched.TheConstants.{MAX_READS}
use Rattle.bx_frames.specs.Frames.{is_far, Found, found}
use Rattle.bx_frames.specs.declared.fault.LinkFault.{LinkFault}
use Rattle.bx_frames.specs.declared.fault.LinkFault.TheVariants.{EndedInFrame, ReadFailed, WriteFailed}
use Rattle.bx_frames.specs.declared.frame.Receiver.{Receiver}
use Rattle.bx_frames.specs.declared.frame.Frame.{Frame}
use Rattle.bx_frames.specs.declared.frame.Frame.TheVariants as frames

-- of the text this was read, and these octets are left
pub record IsRead (text read : List ℕ) (left : Option (List ℕ)) : Type 0 where
  pub rest : List ℕ
  pub splits : text ≡ read ++ rest
  pub is_left : left ≡ Some rest

-- a read failed: the reader is faulted now, and a read was passed on to it, as far as reads are counted
pub record FailsToRead {R : Type 0} (old new : Watched R) : Type 0 where
  pub faulted : is_faulted new ≡ true
  pub passed_on : min (reads_of old + 1) MAX_READS ≤ reads_of new

-- this was found, and these octets are left
pub record IsFound {A : Type 0} (finds : Found A) (result : Result A LinkFault) (left : Option (List ℕ)) : Type 0 where
  pub answer : result ≡ finds.answer
  pub rest : left ≡ Some finds.rest

-- what was read breaks off: had the input ended there, it would have ended inside a frame
pub record IsCut {A : Type 0} (finds : List ℕ → Found A) (text : List ℕ) (left : Option (List ℕ)) : Type 0 where
  pub read : List ℕ
  pub is_read : IsRead text read left
  pub cut : finds read ≡ found (Err EndedInFrame) []

-- of the octets that it had left, what the definition finds there was read, and nothing after it; or a read failed,
-- before all of that was read
pub record Reads {R A : Type 0} (remaining : R → Option (List ℕ)) (old new : Watched R) (result : Result A LinkFault) (finds : List ℕ → Found A) : Type 0 where
  pub found : (text : List ℕ) → remaining (device_of old) ≡ Some text → IsFound (finds text) result (remaining (device_of new)) ⊎ ((result ≡ Err ReadFailed) × IsCut finds text (remaining (device_of new)))
  pub failed : result ≡ Err ReadFailed → FailsToRead old new
  pub unfaulted : (is_faulted new ≡ is_faulted old) ⊎ (result ≡ Err ReadFailed)
  pub counted : reads_of old ≤ reads_of new
  pub reads : ¬ (result ≡ Err WriteFailed)

-- which frames come: a message only while there is room for one, and the end of the day only to the far end
abbrev pub MayCome : Receiver → ℕ → Frame → Type 0
MayCome receiver room (frames.Message octets) = 0 < room
MayCome receiver room (frames.EndOfTurn moment) = Unit {0}
MayCome receiver room frames.EndOfDay = is_far receiver ≡ true
