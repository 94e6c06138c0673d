-- A disk in memory.
use Rattle.std.specs.Prelude.{ℕ, List}
use Rattle.bx_journal.specs.declared.memory.MemoryDisk.{MemoryDisk}

abbrev pub memory_octets : MemoryDisk → List ℕ
memory_octets disk = disk.octets.items
