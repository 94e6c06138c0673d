-- A journal that can't be written is not the output.
use Rattle.std.proofs.Common.{ℕ, List, Option, Some, None}
use Rattle.std.specs.Borrow.{Bor}
use Rattle.bx_check_commands.specs.declared.fault.CommandFault.TheVariants.{CannotWrite}
use Rattle.bx_day_openings.specs.declared.fault.DayCommandFault.TheVariants.{Command}
use Rattle.bx_journal_files.specs.OpeningFaults.{IsUnlogged}
use Rattle.bx_journal_files.specs.declared.fault.LiveFault.TheVariants.{Day as OfDay}

pub no_output : (journal : Option (Bor (List ℕ))) → IsUnlogged journal (OfDay (Command CannotWrite)) → ⊥
no_output None none = none
no_output (Some name) none = none
