-- What a watched reader or writer has seen of its device.
use Rattle.std.specs.Prelude.{ℕ, Bool}
use Rattle.bx_devices.specs.declared.watched.Watched.{Watched}

-- the reader or writer that is watched
abbrev pub device_of : {T : Type 0} → Watched T → T
device_of w = w.inner

-- whether a read or write of it has failed
abbrev pub is_faulted : {T : Type 0} → Watched T → Bool
is_faulted w = w.is_faulted

-- how many reads were passed on to it
abbrev pub reads_of : {T : Type 0} → Watched T → ℕ
reads_of w = w.reads
