-- Why the records of a day are not written by its journal, and what was written then.
use Rattle.std.specs.Prelude.{◌≡◌, ◌⊎◌, ℕ, Bool, List, Option}
use Rattle.bx_calendar.specs.declared.clock.Clock.{Clock}
use Rattle.bx_check_commands.specs.declared.fault.CommandFault.TheVariants.{CannotRead, CannotWrite, Memory}
use Rattle.bx_day.specs.Day.{Day}
use Rattle.bx_day_openings.specs.OpeningRefusals.{IsNoOpening}
use Rattle.bx_day_openings.specs.Recording.{IsClockOf, IsNoClock, answer_for}
use Rattle.bx_day_openings.specs.declared.fault.DayCommandFault.{DayCommandFault}
use Rattle.bx_day_openings.specs.declared.fault.DayCommandFault.TheVariants.{Command, Journal, Amendment}
use Rattle.bx_devices.specs.Devices.{Writing, writing_of}
use Rattle.bx_devices.specs.declared.watched.Watched.{Watched}
use Rattle.bx_journal.specs.Heads.{of_any_day}
use Rattle.bx_journal.specs.declared.fault.JournalFault.TheVariants.{BadLine, OtherPlan, OtherDay, OtherRules}
use Rattle.bx_records.specs.Writing.{IsRecordsRefusal}
use Rattle.bx_records.specs.declared.fault.RecordsFault.{RecordsFault}
use Rattle.bx_request.specs.declared.request.RecordsRequest.{RecordsRequest}
use Rattle.bx_day_openings.specs.JournalRefusals.{IsNoJournalText}
use Rattle.bx_day_openings.specs.Replays.{HasBadAmendment}
use Rattle.bx_day_openings.specs.TiedDays.{IsOpeningOf}
use Rattle.bx_audit.specs.Recorded.{IsDayTold}

-- the input of this name is not read, memory ran out, or just this is the first fault of the text that it gave, or it has a line that amends the plan and is none of its day
abbrev pub IsNoJournalOf : (List ℕ → Option (List ℕ) → Type 0) → List ℕ → List ℕ → List Bool → Day → DayCommandFault → Type 0
IsNoJournalOf gives name plan channels opened (Journal (BadLine n)) = (before : Option (List ℕ)) × gives name before × IsNoJournalText (of_any_day plan) before (BadLine n)
IsNoJournalOf gives name plan channels opened (Journal OtherPlan) = (before : Option (List ℕ)) × gives name before × IsNoJournalText (of_any_day plan) before OtherPlan
IsNoJournalOf gives name plan channels opened (Journal OtherDay) = (before : Option (List ℕ)) × gives name before × IsNoJournalText (of_any_day plan) before OtherDay
IsNoJournalOf gives name plan channels opened (Journal OtherRules) = (before : Option (List ℕ)) × gives name before × IsNoJournalText (of_any_day plan) before OtherRules
IsNoJournalOf gives name plan channels opened (Command (CannotRead n)) = n.now ≡ name
IsNoJournalOf gives name plan channels opened (Command Memory) = Unit {0}
IsNoJournalOf gives name plan channels opened (Amendment why) = (before : Option (List ℕ)) × gives name before × HasBadAmendment channels (of_any_day plan) before opened why
IsNoJournalOf gives name plan channels opened _ = ⊥

-- there is no proved plan, or one, and no journal of it
abbrev pub IsDayUntold : (List ℕ → Option (List ℕ) → Type 0) → List ℕ → List ℕ → DayCommandFault → Type 0
IsDayUntold gives plan journal fault = IsNoOpening plan fault ⊎ ((opened : Day) × (channels : List Bool) × (digest : List ℕ) × IsOpeningOf gives plan opened channels digest × IsNoJournalOf gives journal digest channels opened fault)

-- what is tested first is answered: the date and the zone, the plan, the journal
abbrev pub StopsRecords : (List ℕ → Option (List ℕ) → Type 0) → RecordsRequest → DayCommandFault → Type 0
StopsRecords gives request fault = IsNoClock request.day fault ⊎ (((clock : Option Clock) × IsClockOf request.day clock) × IsDayUntold gives request.plan.now request.journal.now fault)

-- a day was told, and why its records were not written, or not whole
pub record IsUnrecorded (gives : List ℕ → Option (List ℕ) → Type 0) (request : RecordsRequest) (output : Writing) (fault : DayCommandFault) : Type 0 where
  pub day : Day
  pub channels : List Bool
  pub told : IsDayTold gives request.plan.now request.journal.now channels day
  pub clock : Option Clock
  pub clock_of : IsClockOf request.day clock
  pub cause : RecordsFault
  pub answered : fault ≡ answer_for (Command CannotWrite) cause
  pub refused : IsRecordsRefusal clock day.entries output cause

-- the output is as it was before, or records were refused after a prefix of them
abbrev pub IsRecordsCommandRefusal : {W : Type 0} → (List ℕ → Option (List ℕ) → Type 0) → RecordsRequest → (W → Option (List ℕ)) → Watched W → Watched W → DayCommandFault → Type 0
IsRecordsCommandRefusal gives request contents old new fault = (StopsRecords gives request fault × (new ≡ old)) ⊎ IsUnrecorded gives request (writing_of contents old new) fault
