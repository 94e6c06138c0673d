-- Records that were written to their file, or not.
use Rattle.std.proofs.Common.{◌≡◌, ℕ, List, Option, Some, Result, Ok, Err, sym, subst}
use Rattle.bx_day.specs.declared.entry.Entry.{Entry}
use Rattle.bx_devices.specs.Devices.{writing_of}
use Rattle.bx_devices.specs.declared.watched.Watched.{Watched}
use Rattle.bx_records.specs.Writing.{IsRecorded, IsRecordsRefusal}
use Rattle.bx_records.specs.declared.fault.RecordsFault.{RecordsFault}
use Rattle.bx_day_openings.specs.Recording.{IsRecording, answer_for}
use Rattle.bx_day_openings.specs.declared.fault.DayCommandFault.{DayCommandFault}
use Rattle.bx_day_openings.specs.declared.fault.DayCommandFault.TheVariants.{CannotWriteFile}
use Rattle.bx_day_openings.specs.declared.recording.RecordsFile.{RecordsFile}

abbrev pub over : Result (Unit {0}) DayCommandFault
over = Ok tt

module _ {F : Type 0} (contents : F → Option (List ℕ)) (entries : List Entry) (option : Option (RecordsFile F)) (file : RecordsFile F) (there : option ≡ Some file) (closed : Watched F) where
  pub written : IsRecorded file.clock entries (writing_of contents file.file closed) → IsRecording contents entries option over
  written done = subst (λ (o : Option (RecordsFile F)). IsRecording contents entries o over) (sym there) (closed, done)

  pub unwritten : (cause : RecordsFault) (fault : DayCommandFault) → fault ≡ answer_for (CannotWriteFile file.name) cause → IsRecordsRefusal file.clock entries (writing_of contents file.file closed) cause → IsRecording contents entries option (Err fault)
  unwritten cause fault answered refused = subst (λ (o : Option (RecordsFile F)). IsRecording contents entries o (Err fault)) (sym there) (record { closed = closed; cause = cause; answered = answered; refused = refused })
