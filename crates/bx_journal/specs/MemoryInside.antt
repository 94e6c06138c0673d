-- Private: what a disk in memory keeps.
use Rattle.std.specs.Prelude.{ℕ, Bool, List, Vec}
use Rattle.std.specs.declared.alloc.Global.{Global}
use Rattle.bx_journal.specs.declared.memory.MemoryDisk.{MemoryDisk}

abbrev pub memory_past : MemoryDisk → List (Vec ℕ Global)
memory_past disk = disk.past.items

abbrev pub memory_failed : MemoryDisk → Bool
memory_failed disk = disk.has_failed
