-- A journal that is to be new, and why it is not begun.
use Rattle.std.specs.Prelude.{◌≡◌, List, ℕ, Option, Some, None}
use Rattle.std.specs.Borrow.{Bor}
use Rattle.bx_check_commands.specs.declared.fault.CommandFault.TheVariants.{Memory}
use Rattle.bx_day_openings.specs.declared.fault.DayCommandFault.TheVariants.{Command}
use Rattle.bx_journal_files.specs.Folders.{folder_of}
use Rattle.bx_journal_files.specs.JournalDisks.{JournalDisk, file_under}
use Rattle.bx_journal_files.specs.declared.fault.LiveFault.{LiveFault}
use Rattle.bx_journal_files.specs.declared.file_stats.FileStat.{FileStat}
use Rattle.bx_journal_files.specs.declared.fault.LiveFault.TheVariants.{Day as OfDay, CannotRecord, NotEmpty, InUse, NotAFile, StillUp}

-- the system has said of a file that it has opened by this name that no other program writes it, and that it has no octets, and was asked to
-- bring its entry in the folder of the name to the disk
pub record IsNewFile {F : Type 0} (opens : List ℕ → F → Type 0) (locked : F → Type 0) (lies : F → FileStat → Type 0) (entered : List ℕ → F → Type 0) (name : List ℕ) (file : F) : Type 0 where
  pub named : opens name file
  pub alone : locked file
  pub stat : FileStat
  pub said : lies file stat
  pub empty : stat.len ≡ 0
  pub listed : entered (folder_of name) file

-- so is the file into which the disk of a journal that is named writes
abbrev pub IsOnNewFile : {F : Type 0} → (List ℕ → F → Type 0) → (F → Type 0) → (F → FileStat → Type 0) → (List ℕ → F → Type 0) → Option (Bor (List ℕ)) → Option (JournalDisk F) → Type 0
IsOnNewFile opens locked lies entered (Some name) (Some disk) = IsNewFile opens locked lies entered name.now (file_under disk)
IsOnNewFile opens locked lies entered name disk = Unit {0}

-- the file of this name is not opened, or there is no new journal in it
abbrev pub HasNoNewJournal : Option (Bor (List ℕ)) → LiveFault → Type 0
HasNoNewJournal None fault = ⊥
HasNoNewJournal (Some name) (OfDay (Command Memory)) = Unit {0}
HasNoNewJournal (Some name) (OfDay fault) = ⊥
HasNoNewJournal (Some name) (NotEmpty named) = named.now ≡ name.now
HasNoNewJournal (Some name) (InUse named) = named.now ≡ name.now
HasNoNewJournal (Some name) (NotAFile named) = named.now ≡ name.now
HasNoNewJournal (Some name) (CannotRecord named) = named.now ≡ name.now
HasNoNewJournal (Some name) StillUp = ⊥
