-- What is answered for a journal that was read.
use Rattle.std.specs.Borrow.{Bor}
use Rattle.std.specs.Prelude.{ℕ, List, Result, Ok, Err}
use Rattle.bx_check_commands.specs.declared.fault.CommandFault.TheVariants.{CannotRead}
use Rattle.bx_day_openings.specs.declared.fault.DayCommandFault.{DayCommandFault}
use Rattle.bx_day_openings.specs.declared.fault.DayCommandFault.TheVariants.{Command, Journal}
use Rattle.bx_journal.specs.declared.fault.JournalFault.{JournalFault}
use Rattle.bx_journal.specs.declared.fault.JournalFault.TheVariants.{NotBegun, ReadFailed}

-- what a command answers for a journal of this name
abbrev pub told_of : Bor (List ℕ) → Result ℕ JournalFault → Result (Unit {0}) DayCommandFault
told_of name (Ok whole) = Ok tt
told_of name (Err NotBegun) = Ok tt
told_of name (Err ReadFailed) = Err (Command (CannotRead name))
told_of name (Err fault) = Err (Journal fault)
