-- What writing a text does to a watched writer.
use Rattle.std.specs.Prelude.{◌≡◌, ℕ, List, Option, Result, OnOk, OnErr, IsTrue}
use Rattle.std.specs.Io.KnownBytes.{Appends}
use Rattle.bx_devices.specs.declared.watched.Watched.{Watched}
use Rattle.bx_devices.specs.Watching.{device_of, is_faulted, reads_of}
use Rattle.bx_devices.specs.Octets.{AppendsPrefix}

-- it is written, or a write fails and a prefix of it is
pub record Writes {W T E : Type 0} (contents : W → Option (List ℕ)) (old new : Watched W) (result : Result T E) (text : List ℕ) : Type 0 where
  pub written : OnOk result (Appends (contents (device_of old)) (contents (device_of new)) text)
  pub prefix : OnErr result (AppendsPrefix (contents (device_of old)) (contents (device_of new)) text)
  pub faulted : OnErr result (IsTrue (is_faulted new))
  pub unfaulted : OnOk result (is_faulted new ≡ is_faulted old)
  pub reads : reads_of new ≡ reads_of old
