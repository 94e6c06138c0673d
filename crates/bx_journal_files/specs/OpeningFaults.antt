-- Faults of what is opened before a day runs, and of its journal.
use Rattle.std.specs.Prelude.{◌≡◌, List, ℕ, Option, Some}
use Rattle.std.specs.Borrow.{Bor}
use Rattle.bx_day_openings.specs.declared.fault.DayCommandFault.{DayCommandFault}
use Rattle.bx_journal_files.specs.declared.fault.LiveFault.{LiveFault}
use Rattle.bx_journal_files.specs.declared.fault.LiveFault.TheVariants.{Day as OfDay, CannotRecord, NotEmpty, InUse, NotAFile, StillUp}

-- what was not to be opened names no journal
abbrev pub OfOpening : (DayCommandFault → Type 0) → LiveFault → Type 0
OfOpening reason (OfDay fault) = reason fault
OfOpening reason (CannotRecord name) = ⊥
OfOpening reason (NotEmpty name) = ⊥
OfOpening reason (InUse name) = ⊥
OfOpening reason (NotAFile name) = ⊥
OfOpening reason StillUp = ⊥

-- something can't be logged in the journal of this name
abbrev pub IsUnlogged : Option (Bor (List ℕ)) → LiveFault → Type 0
IsUnlogged (Some name) (CannotRecord named) = named.now ≡ name.now
IsUnlogged name fault = ⊥
