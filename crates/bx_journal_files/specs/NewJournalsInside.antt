-- Private: why a file takes no journal, and no new one, by its length.
use Rattle.std.specs.Prelude.{◌≡◌, ℕ, suc, List, Result, Ok, Err}
use Rattle.std.specs.Borrow.{Bor}
use Rattle.std.specs.declared.io.Error.{Error}
use Rattle.bx_check_commands.specs.declared.fault.CommandFault.TheVariants.{Memory}
use Rattle.bx_day_openings.specs.declared.fault.DayCommandFault.TheVariants.{Command}
use Rattle.bx_journal_files.specs.declared.fault.LiveFault.{LiveFault}
use Rattle.bx_journal_files.specs.declared.file_stats.FileStat.{FileStat}
use Rattle.bx_journal_files.specs.declared.fault.LiveFault.TheVariants.{Day as OfDay, CannotRecord, NotEmpty, InUse, NotAFile}

-- the system has said that an open file has so many octets
abbrev pub HasLength : (FileStat → Type 0) → ℕ → Type 0
HasLength lies len = (stat : FileStat) × lies stat × (stat.len ≡ len)

-- a file of this name holds something, by its length; or its length is not known
abbrev pub IsNotNew : List ℕ → Result ℕ Error → LiveFault → Type 0
IsNotNew name (Ok (suc n)) (NotEmpty named) = named.now ≡ name
IsNotNew name (Err error) (CannotRecord named) = named.now ≡ name
IsNotNew name length fault = ⊥

-- so it is, or memory ran out
abbrev pub IsNoNewJournal : List ℕ → Result ℕ Error → LiveFault → Type 0
IsNoNewJournal name length (OfDay (Command Memory)) = length ≡ Ok 0
IsNoNewJournal name length fault = IsNotNew name length fault

-- the file of this name is not opened, is no plain file, or another program writes it
abbrev pub IsUnopenedJournal : Bor (List ℕ) → LiveFault → Type 0
IsUnopenedJournal name (CannotRecord n) = n.now ≡ name.now
IsUnopenedJournal name (InUse n) = n.now ≡ name.now
IsUnopenedJournal name (NotAFile n) = n.now ≡ name.now
IsUnopenedJournal name _ = ⊥
