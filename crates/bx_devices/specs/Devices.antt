-- A reader and a writer before and after a call, with the octets that they tell.
use Rattle.std.specs.Prelude.{ℕ, Bool, List, Option, ◌⊎◌, IsTrue}
use Rattle.std.specs.Io.KnownBytes.{Keeps}
use Rattle.bx_devices.specs.Watching.{device_of, is_faulted, reads_of}
use Rattle.bx_devices.specs.declared.watched.Watched.{Watched}
use Rattle.bx_devices.specs.Octets.{RunsOutOfReads}

-- a reader before and after: the octets that are left, whether it was and is faulted, and how many reads it had seen
pub record Reading : Type 0 where
  pub before : Option (List ℕ)
  pub after : Option (List ℕ)
  pub was_faulted : Bool
  pub is_faulted : Bool
  pub reads_before : ℕ

-- the same of a watched reader
abbrev pub reading_of : {R : Type 0} → (R → Option (List ℕ)) → Watched R → Watched R → Reading
reading_of remaining old new = record { before = remaining (device_of old); after = remaining (device_of new); was_faulted = is_faulted old; is_faulted = is_faulted new; reads_before = reads_of old }

-- a writer before and after: the octets that it holds, and whether it is faulted afterwards
pub record Writing : Type 0 where
  pub before : Option (List ℕ)
  pub after : Option (List ℕ)
  pub is_faulted : Bool

-- the same of a watched writer
abbrev pub writing_of : {W : Type 0} → (W → Option (List ℕ)) → Watched W → Watched W → Writing
writing_of contents old new = record { before = contents (device_of old); after = contents (device_of new); is_faulted = is_faulted new }

-- nothing was written
abbrev pub KeepsOutput : Writing → Type 0
KeepsOutput output = Keeps output.before output.after

-- reads did not come to the end: the reader is faulted, or as many reads as are counted were not enough
abbrev pub IsNeverAtEnd : {R : Type 0} → (R → Option (List ℕ)) → Watched R → Watched R → Type 0
IsNeverAtEnd remaining old new =
    IsTrue (is_faulted new)
    ⊎ RunsOutOfReads (remaining (device_of old)) (remaining (device_of new)) (reads_of old)
