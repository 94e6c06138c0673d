-- What the command that says what each count of channels would earn writes, and why it is refused.
use Rattle.std.specs.Prelude.{◌≡◌, ◌⊎◌, ℕ, List, Option}
use Rattle.bx_devices.specs.Devices.{Reading, Writing, writing_of}
use Rattle.bx_devices.specs.declared.watched.Watched.{Watched}
use Rattle.bx_calendar.specs.NamedDays.{IsDayOf}
use Rattle.bx_book.specs.Rows.{Span, span_of}
use Rattle.bx_calendar.specs.declared.day.Day.{Day}
use Rattle.bx_book.specs.declared.stream.StreamFault.TheVariants as stream
use Rattle.bx_check_commands.specs.Inputs.{IsReadOf}
use Rattle.bx_check_commands.specs.PlanFiles.{IsUnopened}
use Rattle.bx_check_commands.specs.declared.fault.CommandFault.TheVariants.{CannotRead, CannotWrite, Memory}
use Rattle.bx_plan_commands.specs.FileRefusals.{IsNoDay, IsSomeDay, IsFileFault}
use Rattle.bx_plan_commands.specs.declared.fault.FileFault.{FileFault}
use Rattle.bx_plan_commands.specs.declared.fault.FileFault.TheVariants as files
use Rattle.bx_plan_commands.specs.Capacity.{IsTabled, IsCapacityRefusal}
use Rattle.bx_plan_commands.specs.declared.earning.CapacityFault.TheVariants as capacity

-- the words name a day, and an input of this name was read from its beginning
pub record IsInputOn (gives : List ℕ → Option (List ℕ) → Type 0) (date zone bookings : List ℕ) : Type 0 where
  pub day : Day
  pub day_of : IsDayOf date zone day
  pub input : Reading
  pub of_name : IsReadOf gives bookings input

-- and just the lines of its bookings were written
abbrev pub IsTableWritten : (List ℕ → Option (List ℕ) → Type 0) → List ℕ → List ℕ → List ℕ → Writing → Type 0
IsTableWritten gives date zone bookings output = (given : IsInputOn gives date zone bookings) × IsTabled given.input output (span_of given.day)

-- the faults of the run, as this command tells them of an input of this name
abbrev pub IsTableFault : List ℕ → Reading → Writing → Span → FileFault → Type 0
IsTableFault name input output span (files.Command (CannotRead n)) = (n.now ≡ name)
    × (IsCapacityRefusal input output span (capacity.Unread stream.ReadFailed) ⊎ IsCapacityRefusal input output span (capacity.Unread stream.TooLong))
IsTableFault name input output span (files.Book fault) = IsCapacityRefusal input output span (capacity.Unread (stream.Book fault))
IsTableFault name input output span (files.Command CannotWrite) = IsCapacityRefusal input output span capacity.WriteFailed
IsTableFault name input output span (files.Command Memory) = IsCapacityRefusal input output span (capacity.Unread stream.Memory) ⊎ IsCapacityRefusal input output span capacity.Memory
IsTableFault name input output span _ = ⊥

-- an input was opened, and the run over it refused
abbrev pub IsUntabled : (List ℕ → Option (List ℕ) → Type 0) → List ℕ → List ℕ → List ℕ → Writing → FileFault → Type 0
IsUntabled gives date zone bookings output fault = (given : IsInputOn gives date zone bookings) × IsTableFault bookings given.input output (span_of given.day) fault

abbrev pub IsTableRefusal : {W : Type 0} → (List ℕ → Option (List ℕ) → Type 0) → List ℕ → List ℕ → List ℕ → (W → Option (List ℕ)) → Watched W → Watched W → FileFault → Type 0
IsTableRefusal gives date zone bookings contents old new fault =
    ((IsNoDay date zone fault ⊎ (IsSomeDay date zone × IsFileFault (IsUnopened bookings) fault)) × (new ≡ old))
    ⊎ IsUntabled gives date zone bookings (writing_of contents old new) fault
