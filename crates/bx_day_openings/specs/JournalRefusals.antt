-- Why a journal is not followed to its end.
use Rattle.std.specs.Prelude.{◌≡◌, ◌⊎◌, ◌≤◌, ℕ, Bool, true, List, Option, Some, None, Err}
use Rattle.bx_check_commands.specs.declared.fault.CommandFault.TheVariants.{CannotRead}
use Rattle.bx_day_openings.specs.declared.fault.DayCommandFault.{DayCommandFault}
use Rattle.bx_day_openings.specs.declared.fault.DayCommandFault.TheVariants.{Command, Journal}
use Rattle.bx_devices.specs.Octets.{ReadsPrefix}
use Rattle.bx_journal.specs.Reading.{recovered}
use Rattle.bx_journal.specs.declared.fault.JournalFault.{JournalFault}
use Rattle.bx_journal.specs.declared.fault.JournalFault.TheVariants.{BadLine, OtherPlan, OtherDay, OtherRules}
use Rattle.bx_journal.specs.declared.head.Wanted.{Wanted}

-- this is the first fault of the text that was to be read, which is what there was to read where the journal tells it
pub record IsNoJournalText (wanted : Wanted) (before : Option (List ℕ)) (fault : JournalFault) : Type 0 where
  pub text : List ℕ
  pub told : (known : List ℕ) → before ≡ Some known → text ≡ known
  pub first : recovered wanted text ≡ Err fault

-- a read failed, or as many octets were read as are counted
abbrev pub IsCutOff : Option (List ℕ) → Option (List ℕ) → Bool → Type 0
IsCutOff before after faulted = (faulted ≡ true) ⊎ ((n : ℕ) × (18446744073709551615 ≤ n) × ReadsPrefix before after n)

-- why a journal of this name is not followed to its end
abbrev pub IsNoJournal : List ℕ → Wanted → Option (List ℕ) → Option (List ℕ) → Bool → DayCommandFault → Type 0
IsNoJournal name wanted before after faulted (Journal (BadLine n)) = IsNoJournalText wanted before (BadLine n)
IsNoJournal name wanted before after faulted (Journal OtherPlan) = IsNoJournalText wanted before OtherPlan
IsNoJournal name wanted before after faulted (Journal OtherDay) = IsNoJournalText wanted before OtherDay
IsNoJournal name wanted before after faulted (Journal OtherRules) = IsNoJournalText wanted before OtherRules
IsNoJournal name wanted before after faulted (Command (CannotRead n)) = (n.now ≡ name) × IsCutOff before after faulted
IsNoJournal name wanted before after faulted _ = ⊥

-- the same of a file of this name, which is not opened, or does not tell its octets
abbrev pub HasNoJournal : List ℕ → Wanted → DayCommandFault → Type 0
HasNoJournal name wanted (Journal (BadLine n)) = IsNoJournalText wanted None (BadLine n)
HasNoJournal name wanted (Journal OtherPlan) = IsNoJournalText wanted None OtherPlan
HasNoJournal name wanted (Journal OtherDay) = IsNoJournalText wanted None OtherDay
HasNoJournal name wanted (Journal OtherRules) = IsNoJournalText wanted None OtherRules
HasNoJournal name wanted (Command (CannotRead n)) = n.now ≡ name
HasNoJournal name wanted _ = ⊥
