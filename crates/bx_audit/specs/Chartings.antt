-- Private: a day while it is followed with its outages.
use Rattle.std.specs.Prelude.{ℕ, Bool, List, Option}
use Rattle.bx_check_commands.specs.declared.fault.CommandFault.TheVariants.{Memory}
use Rattle.bx_day.specs.Day.{Day}
use Rattle.bx_day_openings.specs.Replays.{IsNoReplay}
use Rattle.bx_day_openings.specs.declared.fault.DayCommandFault.{DayCommandFault}
use Rattle.bx_day_openings.specs.declared.fault.DayCommandFault.TheVariants.{Command}
use Rattle.bx_events.specs.Events.{LiveEvent}
use Rattle.bx_journal.specs.declared.head.Wanted.{Wanted}
use Rattle.bx_day_openings.specs.Selling.{IsAfter}
use Rattle.bx_audit.specs.Notings.{IsNoted}
use Rattle.bx_audit.specs.declared.charting.Charting.{Charting}
use Rattle.bx_devices.specs.Devices.{Reading}

abbrev pub HasFollowed : Charting → List LiveEvent → Charting → Type 0
HasFollowed old events new = IsAfter old.selling events new.selling × IsNoted old.noting events new.noting

-- why a day has not gone through the journal of this name
abbrev pub IsNotSeen : List ℕ → Wanted → List Bool → Day → Option (List ℕ) → Option (List ℕ) → Bool → DayCommandFault → Type 0
IsNotSeen name wanted channels opened before after faulted (Command Memory) = Unit {0}
IsNotSeen name wanted channels opened before after faulted fault = IsNoReplay name wanted channels opened before after faulted fault

-- the same of what was read
abbrev pub IsNotSeenAsRead : List ℕ → Wanted → List Bool → Day → Reading → DayCommandFault → Type 0
IsNotSeenAsRead name wanted channels opened reading = IsNotSeen name wanted channels opened reading.before reading.after reading.is_faulted
