-- The disk of the journal of a rehearsal: a file of the system, through a buffer.
use Rattle.std.specs.Io.Buffered.{writer_inner}
use Rattle.std.specs.declared.alloc.Global.{Global}
use Rattle.std.specs.declared.io.buffered.BufWriter.{BufWriter}
use Rattle.bx_journal.specs.declared.file.FileDisk.{FileDisk}
use Rattle.bx_journal_files.specs.declared.synced_file.SyncedFile.{SyncedFile}

abbrev pub JournalDisk : Type 0 → Type 0
JournalDisk F = FileDisk (BufWriter (SyncedFile F) Global)

-- the file into which it writes
abbrev pub file_under : {F : Type 0} → JournalDisk F → F
file_under disk = (writer_inner disk.file).file
