-- What putting a text does to a watched writer and the block before it.
use Rattle.std.specs.Prelude.{◌≡◌, ℕ, List, ◌++◌, Option, Result, OnOk, OnErr, IsTrue}
use Rattle.std.specs.Io.KnownBytes.{Appends}
use Rattle.bx_devices.specs.declared.watched.Watched.{Watched}
use Rattle.bx_devices.specs.Watching.{device_of, is_faulted, reads_of}
use Rattle.bx_devices.specs.Octets.{AppendsPrefix}
use Rattle.bx_text.specs.declared.block.Block.{Block}

-- the octets of a block
abbrev pub octets_of : Block → List ℕ
octets_of block = block.octets.items

-- a writer, and the octets that wait to be written to it
pub record HeldBlock (W : Type 0) : Type 0 where
  pub writer : Watched W
  pub waiting : List ℕ

abbrev pub held : {W : Type 0} → Watched W → Block → HeldBlock W
held w block = record { writer = w; waiting = octets_of block }

-- known octets grew by a prefix of a text, and the rest of it waits
abbrev pub Leaves : Option (List ℕ) → Option (List ℕ) → List ℕ → List ℕ → Type 0
Leaves old new text waiting = (leading : List ℕ) × Appends old new leading × (text ≡ leading ++ waiting)

-- a text is put: what is written by that, followed by what waits, is what waited before followed by the text; or a write
-- fails, and a prefix of that is written
pub record Gathers {W T E : Type 0} (contents : W → Option (List ℕ)) (old new : HeldBlock W) (result : Result T E) (text : List ℕ) : Type 0 where
  pub put : OnOk result (Leaves (contents (device_of old.writer)) (contents (device_of new.writer)) (old.waiting ++ text) new.waiting)
  pub prefix : OnErr result (AppendsPrefix (contents (device_of old.writer)) (contents (device_of new.writer)) (old.waiting ++ text))
  pub faulted : OnErr result (IsTrue (is_faulted new.writer))
  pub unfaulted : OnOk result (is_faulted new.writer ≡ is_faulted old.writer)
  pub reads : reads_of new.writer ≡ reads_of old.writer
