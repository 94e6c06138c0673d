-- A file that stands under the name by which it was opened.
use Rattle.std.specs.Prelude.{◌≡◌, ◌==◌, ◌&&◌, ℕ, Bool, true}
use Rattle.bx_journal_files.specs.declared.file_stats.FileStat.{FileStat}

abbrev pub is_same_file : FileStat → FileStat → Bool
is_same_file a b = (a.device == b.device) && (a.inode == b.inode)

-- the system has said of the open file and of its name that both are one file, and that this has so many octets
pub record Stands (lies names : FileStat → Type 0) (len : ℕ) : Type 0 where
  pub opened : FileStat
  pub named : FileStat
  pub said : lies opened
  pub said_of_name : names named
  pub same : is_same_file opened named ≡ true
  pub has : named.len ≡ len
