-- The faults of a live day that last: a start again, with the same words, cannot mend them.
use Rattle.std.specs.Prelude.{Bool, true, false}
use Rattle.bx_check_commands.specs.declared.fault.CommandFault.{CommandFault}
use Rattle.bx_check_commands.specs.declared.fault.CommandFault.TheVariants.{Plan, Check}
use Rattle.bx_day_openings.specs.declared.fault.DayCommandFault.{DayCommandFault}
use Rattle.bx_day_openings.specs.declared.fault.DayCommandFault.TheVariants.{Command, Day, Capture, Journal, Amendment}
use Rattle.bx_day_openings.specs.declared.amending.AmendmentFault.{AmendmentFault}
use Rattle.bx_day_openings.specs.declared.amending.AmendmentFault.TheVariants.{Memory}
use Rattle.bx_journal.specs.declared.fault.JournalFault.{JournalFault}
use Rattle.bx_journal.specs.declared.fault.JournalFault.TheVariants.{NotBegun, ReadFailed}
use Rattle.bx_journal_files.specs.declared.fault.LiveFault.{LiveFault}
use Rattle.bx_journal_files.specs.declared.fault.LiveFault.TheVariants.{Day as OfDay, NotAFile, StillUp}

-- the file holds no plan, or none that is proved
abbrev pub does_command_last : CommandFault → Bool
does_command_last (Plan fault) = true
does_command_last (Check fault) = true
does_command_last _ = false

-- it is no journal of this plan, this day and these rules
abbrev pub does_journal_last : JournalFault → Bool
does_journal_last NotBegun = false
does_journal_last ReadFailed = false
does_journal_last _ = true

-- it has a line that amends the plan and is none of its day
abbrev pub does_amendment_last : AmendmentFault → Bool
does_amendment_last Memory = false
does_amendment_last _ = true

-- or the words name no day
abbrev pub does_opening_last : DayCommandFault → Bool
does_opening_last (Command fault) = does_command_last fault
does_opening_last (Day fault) = true
does_opening_last (Capture fault) = true
does_opening_last (Journal fault) = does_journal_last fault
does_opening_last (Amendment fault) = does_amendment_last fault
does_opening_last _ = false

-- or the journal is no file, or the day has no more seconds
abbrev pub does_last : LiveFault → Bool
does_last (OfDay fault) = does_opening_last fault
does_last (NotAFile name) = true
does_last StillUp = true
does_last _ = false
