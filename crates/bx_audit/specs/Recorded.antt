-- The records of a day that are written by its journal.
use Rattle.std.specs.Prelude.{◌≡◌, ◌⊎◌, ℕ, Bool, true, false, List, Option}
use Rattle.std.specs.Io.KnownBytes.{Appends}
use Rattle.bx_calendar.specs.declared.clock.Clock.{Clock}
use Rattle.bx_day.specs.Day.{Day}
use Rattle.bx_day.specs.declared.entry.Entry.{Entry}
use Rattle.bx_day_openings.specs.Recording.{IsClockOf}
use Rattle.bx_devices.specs.Devices.{Writing, KeepsOutput}
use Rattle.bx_devices.specs.Octets.{AppendsPrefix}
use Rattle.bx_journal.specs.Heads.{of_any_day}
use Rattle.bx_day_openings.specs.Replays.{IsDayThrough}
use Rattle.bx_day_openings.specs.TiedDays.{IsOpeningOf}
use Rattle.bx_records.specs.Totals.{totals_text}
use Rattle.bx_records.specs.Writing.{IsRecorded}
use Rattle.bx_request.specs.declared.request.RecordsRequest.{RecordsRequest}

-- the day of that plan, after just the events and amendments of the journal that another input gave
pub record IsDayTold (gives : List ℕ → Option (List ℕ) → Type 0) (plan journal : List ℕ) (channels : List Bool) (day : Day) : Type 0 where
  pub opened : Day
  pub digest : List ℕ
  pub opens : IsOpeningOf gives plan opened channels digest
  pub before : Option (List ℕ)
  pub given : gives journal before
  pub through : IsDayThrough channels (of_any_day digest) before opened day

-- the records of this day were written, with the clock that the words name
pub record IsDayRecorded (gives : List ℕ → Option (List ℕ) → Type 0) (request : RecordsRequest) (day : Day) (output : Writing) : Type 0 where
  pub channels : List Bool
  pub told : IsDayTold gives request.plan.now request.journal.now channels day
  pub clock : Option Clock
  pub clock_of : IsClockOf request.day clock
  pub written : IsRecorded clock day.entries output

-- the line of their totals was written, or a prefix of it where that failed; where it is to be quiet, nothing was
abbrev pub IsTotalsTold : Bool → List Entry → Writing → Type 0
IsTotalsTold true entries errors = KeepsOutput errors
IsTotalsTold false entries errors = Appends errors.before errors.after (totals_text entries) ⊎ ((errors.is_faulted ≡ true) × AppendsPrefix errors.before errors.after (totals_text entries))

-- the records of such a day were written
abbrev pub AreRecordsWritten : (List ℕ → Option (List ℕ) → Type 0) → RecordsRequest → Writing → Type 0
AreRecordsWritten gives request output = (day : Day) × IsDayRecorded gives request day output

-- and the totals of the same day
abbrev pub AreRecordsTold : (List ℕ → Option (List ℕ) → Type 0) → RecordsRequest → Writing → Writing → Type 0
AreRecordsTold gives request output errors = (day : Day) × IsDayRecorded gives request day output × IsTotalsTold request.is_quiet day.entries errors
