-- What is written of a day's records, and what each refusal says.
use Rattle.std.specs.Prelude.{◌≡◌, ℕ, true, ◌+ℤ◌, ◌*ℤ◌, pos, List, Option, Some, None}
use Rattle.std.specs.Io.KnownBytes.{Appends}
use Rattle.jiff.specs.Words.{IsTimestampNanos}
use Rattle.bx_calendar.specs.Clocks.{clock_start}
use Rattle.bx_calendar.specs.declared.clock.Clock.{Clock}
use Rattle.bx_day.specs.declared.entry.Entry.{Entry}
use Rattle.bx_devices.specs.Devices.{Writing, KeepsOutput}
use Rattle.bx_devices.specs.Octets.{AppendsPrefix}
use Rattle.bx_records.specs.Records.{IsRecordsText}
use Rattle.bx_records.specs.declared.fault.RecordsFault.{RecordsFault}
use Rattle.bx_records.specs.declared.fault.RecordsFault.TheVariants.{OutOfRange, WriteFailed, Memory}

-- the records were written
abbrev pub IsRecorded : Option Clock → List Entry → Writing → Type 0
IsRecorded clock entries output = (text : List ℕ) × IsRecordsText clock entries text × Appends output.before output.after text

-- some moment of the day has no time on the clock
abbrev pub IsBeyond : Option Clock → Type 0
IsBeyond None = ⊥
IsBeyond (Some clock) = (moment : ℕ) × ¬ IsTimestampNanos ((clock_start clock +ℤ pos moment) *ℤ pos 1_000_000_000)

-- each refusal: nothing was written, or the output failed after a prefix of the records
abbrev pub IsRecordsRefusal : Option Clock → List Entry → Writing → RecordsFault → Type 0
IsRecordsRefusal clock entries output OutOfRange = IsBeyond clock × KeepsOutput output
IsRecordsRefusal clock entries output WriteFailed = (output.is_faulted ≡ true) × ((text : List ℕ) × IsRecordsText clock entries text × AppendsPrefix output.before output.after text)
IsRecordsRefusal clock entries output Memory = KeepsOutput output
