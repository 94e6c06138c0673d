-- The file that the records of a day are written to, at the end of that day.
use Rattle.std.specs.Borrow.{Bor}
use Rattle.std.specs.Prelude.{◌≡◌, ◌⊎◌, ⊤, ℕ, Bool, true, false, List, Option, Some, None, Result, Ok, Err, IsOk}
use Rattle.bx_calendar.specs.Clocks.{IsClock}
use Rattle.bx_calendar.specs.NamedDays.{IsDayFault}
use Rattle.bx_calendar.specs.declared.clock.Clock.{Clock}
use Rattle.bx_calendar.specs.declared.day.DayFault.{DayFault}
use Rattle.bx_calendar.specs.declared.day.DayFault.TheVariants as days
use Rattle.bx_check_commands.specs.declared.fault.CommandFault.TheVariants as commands
use Rattle.bx_day.specs.declared.entry.Entry.{Entry}
use Rattle.bx_devices.specs.Devices.{writing_of}
use Rattle.bx_devices.specs.Watching.{is_faulted}
use Rattle.bx_devices.specs.declared.watched.Watched.{Watched}
use Rattle.bx_records.specs.Writing.{IsRecorded, IsRecordsRefusal}
use Rattle.bx_records.specs.declared.fault.RecordsFault.{RecordsFault}
use Rattle.bx_records.specs.declared.fault.RecordsFault.TheVariants.{OutOfRange, WriteFailed, Memory}
use Rattle.bx_request.specs.declared.request.CaptureWords.{CaptureWords}
use Rattle.bx_request.specs.declared.request.RecordsWords.{RecordsWords}
use Rattle.bx_day_openings.specs.OpeningRefusals.{IsNoFile}
use Rattle.bx_day_openings.specs.declared.fault.DayCommandFault.{DayCommandFault}
use Rattle.bx_day_openings.specs.declared.fault.DayCommandFault.TheVariants.{Command, CannotWriteFile}
use Rattle.bx_day_openings.specs.declared.fault.DayCommandFault.TheVariants as faults
use Rattle.bx_day_openings.specs.declared.recording.RecordsFile.{RecordsFile}

-- ---- the clock

-- that of the date and the zone that are named, and none where none are
abbrev pub IsClockOf : Option (Bor (List ℕ) × Bor (List ℕ)) → Option Clock → Type 0
IsClockOf None None = Unit {0}
IsClockOf (Some (date, zone)) (Some clock) = IsClock date.now zone.now clock
IsClockOf _ _ = ⊥

-- a date and a zone are named, and name no day
abbrev pub IsNoNamedDay : Option (Bor (List ℕ) × Bor (List ℕ)) → DayFault → Type 0
IsNoNamedDay None fault = ⊥
IsNoNamedDay (Some (date, zone)) fault = IsDayFault date.now zone.now fault

-- so there is no clock
abbrev pub IsNoClock : Option (Bor (List ℕ) × Bor (List ℕ)) → DayCommandFault → Type 0
IsNoClock day (faults.Day fault) = IsNoNamedDay day fault
IsNoClock day _ = ⊥

-- that of the records that are to be written
abbrev pub IsRecordsClock : Option RecordsWords → Option Clock → Type 0
IsRecordsClock None clock = clock ≡ None
IsRecordsClock (Some records) clock = IsClockOf records.day clock

-- records are to be written, and their date and zone name no day
abbrev pub IsNoRecordsClock : Option RecordsWords → DayCommandFault → Type 0
IsNoRecordsClock None fault = ⊥
IsNoRecordsClock (Some records) fault = IsNoClock records.day fault

-- ---- the file

-- there is a file just where records are to be written; it has the name that the words give, records are written to it by this
-- clock, and no write of it has failed
abbrev pub IsRecordsFileFor : {F : Type 0} → Option RecordsWords → Option Clock → Option (RecordsFile F) → Type 0
IsRecordsFileFor None clock None = ⊤
IsRecordsFileFor (Some records) clock (Some file) = (file.name ≡ records.file) × (file.clock ≡ clock) × (is_faulted file.file ≡ false)
IsRecordsFileFor records clock file = ⊥

-- such a file was made, with the clock that the words name
abbrev pub IsMade : {F : Type 0} → Option RecordsWords → Option (RecordsFile F) → Type 0
IsMade records file = (clock : Option Clock) × IsRecordsClock records clock × IsRecordsFileFor records clock file

-- there is one, as far as no file tells its octets
abbrev pub HasRecordsClock : Option RecordsWords → Type 0
HasRecordsClock records = (clock : Option Clock) × IsRecordsClock records clock

abbrev pub HasRecordsFile : Type 0 → Option RecordsWords → Type 0
HasRecordsFile F records = (file : Option (RecordsFile F)) × IsMade records file

-- the file of these records
abbrev pub IsFileOfRecords : Option RecordsWords → List ℕ → Type 0
IsFileOfRecords None name = ⊥
IsFileOfRecords (Some records) name = name ≡ records.file.now

-- it is not made
abbrev pub IsNoRecordsFile : Option RecordsWords → DayCommandFault → Type 0
IsNoRecordsFile records (CannotWriteFile name) = IsFileOfRecords records name.now
IsNoRecordsFile records _ = ⊥

-- ---- the records

-- what a command answers for records that were not written, where this is its answer for a write that failed
abbrev pub answer_for : DayCommandFault → RecordsFault → DayCommandFault
answer_for unwritten OutOfRange = faults.Day days.OutOfRange
answer_for unwritten WriteFailed = unwritten
answer_for unwritten Memory = Command commands.Memory

-- the records of these bookings were not written to this file, or not whole, and the answer says why
pub record IsNotRecorded {F : Type 0} (contents : F → Option (List ℕ)) (entries : List Entry) (file : RecordsFile F) (fault : DayCommandFault) : Type 0 where
  pub closed : Watched F
  pub cause : RecordsFault
  pub answered : fault ≡ answer_for (CannotWriteFile file.name) cause
  pub refused : IsRecordsRefusal file.clock entries (writing_of contents file.file closed) cause

-- where there is a file, just the records of these bookings were written to it, once; or this is why they were not
abbrev pub IsRecording : {F : Type 0} → (F → Option (List ℕ)) → List Entry → Option (RecordsFile F) → Result (Unit {0}) DayCommandFault → Type 0
IsRecording contents entries None (Ok done) = ⊤
IsRecording contents entries None (Err fault) = ⊥
IsRecording {F = F} contents entries (Some file) (Ok done) = (closed : Watched F) × IsRecorded file.clock entries (writing_of contents file.file closed)
IsRecording contents entries (Some file) (Err fault) = IsNotRecorded contents entries file fault

-- where records are to be written, a file was made for them, and took just those of these bookings, with the clock that the words
-- name; or this is why it did not
pub record AreRecorded {F : Type 0} (contents : F → Option (List ℕ)) (records : Option RecordsWords) (entries : List Entry) (recorded : Result (Unit {0}) DayCommandFault) : Type 0 where
  pub file : Option (RecordsFile F)
  pub made : IsMade records file
  pub ends : IsRecording contents entries file recorded

-- ---- what is told of both files

-- the capture, where there is to be one, is whole, and so are the records
abbrev pub IsAllKept : Option CaptureWords → Bool → Result (Unit {0}) DayCommandFault → Type 0
IsAllKept capture is_captured recorded = ((is_captured ≡ true) ⊎ (capture ≡ None)) × IsOk recorded

-- the capture is not whole, and the fault names its file; or it is, and the records are not, for this reason
abbrev pub IsUnkept : Option CaptureWords → Bool → Result (Unit {0}) DayCommandFault → DayCommandFault → Type 0
IsUnkept capture is_captured recorded fault = ((is_captured ≡ false) × IsNoFile capture fault) ⊎ (((is_captured ≡ true) ⊎ (capture ≡ None)) × (recorded ≡ Err fault))
