-- A day of which all was told, or not all.
use Rattle.std.proofs.Common.{◌≡◌, ◌⊎◌, ◌∙◌, ℕ, Bool, true, List, Option, Some, None, Result, Err, inl, inr, refl, subst}
use Rattle.bx_capture.specs.Captures.{Keeps, is_unfaulted}
use Rattle.bx_check_commands.specs.declared.fault.CommandFault.TheVariants.{CannotWrite}
use Rattle.bx_day.specs.declared.entry.Entry.{Entry}
use Rattle.bx_day_openings.specs.CaptureOpenings.{IsFileFor}
use Rattle.bx_day_openings.specs.Recording.{IsRecording, IsUnkept, IsNoRecordsClock, answer_for}
use Rattle.bx_day_openings.specs.declared.fault.DayCommandFault.{DayCommandFault}
use Rattle.bx_day_openings.specs.declared.fault.DayCommandFault.TheVariants.{Command, CannotWriteFile}
use Rattle.bx_day_openings.specs.declared.recording.RecordsFile.{RecordsFile}
use Rattle.bx_devices.specs.Devices.{Writing}
use Rattle.bx_devices.specs.declared.watched.Watched.{Watched}
use Rattle.bx_live.specs.Acts.{Act}
use Rattle.bx_records.specs.declared.fault.RecordsFault.{RecordsFault}
use Rattle.bx_records.specs.declared.fault.RecordsFault.TheVariants.{OutOfRange}
use Rattle.bx_request.specs.declared.request.CaptureWords.{CaptureWords}
use Rattle.bx_request.specs.declared.request.RecordsWords.{RecordsWords}
use Rattle.bx_rehearsal_commands.specs.RunCaptures.{IsRunKept}
use Rattle.bx_rehearsal_commands.specs.Telling.{IsTold, IsNotToldWhole}
use Rattle.bx_journal_files.specs.declared.fault.LiveFault.TheVariants.{Day as OfDay}
use Rattle.bx_rehearsal_commands.specs.declared.telling.Ended.{Ended}

-- where nothing is to be captured, all of that was

no_file : {F : Type 0} (contents : F → Option (List ℕ)) (file closed : Option (Watched F)) (packets : List ℕ) → IsFileFor contents None file → Keeps contents file closed packets → is_unfaulted closed ≡ true
no_file contents None None packets opens keeps = refl
no_file contents None (Some w) packets opens keeps = absurd keeps
no_file contents (Some w) closed packets opens keeps = absurd opens

pub whole_run_kept : {F : Type 0} (files : F → Option (List ℕ)) (capture : Option CaptureWords) (file : Option (Watched F)) (first : ℕ) (acts : List Act) (is_whole : Bool) → IsFileFor files capture file → IsRunKept files file first acts is_whole
    → (is_whole ≡ true) ⊎ (capture ≡ None) → is_whole ≡ true
whole_run_kept files capture file first acts is_whole opens kept (inl whole) = whole
whole_run_kept files capture file first acts is_whole opens kept (inr none) =
    kept.whole ∙ no_file files file kept.closed kept.packets (subst (λ (c : Option CaptureWords). IsFileFor files c file) none opens) kept.keeps

-- what is not recorded or captured whole is no failed output

not_output : (name : _) (cause : RecordsFault) → Command CannotWrite ≡ answer_for (CannotWriteFile name) cause → ⊥
not_output name OutOfRange same = cc
not_output name cause same = cc

no_cut : {F : Type 0} (files : F → Option (List ℕ)) (entries : List Entry) (records : Option (RecordsFile F)) → IsRecording files entries records (Err (Command CannotWrite)) → ⊥
no_cut files entries None unlogged = unlogged
no_cut files entries (Some file) unlogged = not_output file.name unlogged.cause unlogged.answered

unkept_output : {F : Type 0} (files : F → Option (List ℕ)) (capture : Option CaptureWords) (is_whole : Bool) (entries : List Entry) (records : Option (RecordsFile F)) (recorded : Result (Unit {0}) DayCommandFault)
    → IsRecording files entries records recorded → IsUnkept capture is_whole recorded (Command CannotWrite) → ⊥
unkept_output files capture is_whole entries records recorded ends (inl cut) = cut.1
unkept_output files capture is_whole entries records recorded ends (inr (all, is)) = no_cut files entries records (subst (IsRecording files entries records) is ends)

pub unwhole : {F : Type 0} (files : F → Option (List ℕ)) (capture : Option CaptureWords) (ended : Ended F) (output : Writing) (recorded : Result (Unit {0}) DayCommandFault) (fault : DayCommandFault) → IsTold files ended output recorded
    → IsUnkept capture ended.is_whole recorded fault → IsNotToldWhole files capture ended output (OfDay fault)
unwhole files capture ended output recorded (Command CannotWrite) told unkept = absurd (unkept_output files capture ended.is_whole ended.exchange.entries ended.records recorded told.records unkept)
unwhole files capture ended output recorded fault told unkept = record { recorded = recorded; told = told; unkept = unkept }

-- nor is a day that has no clock

pub no_clock : (records : Option RecordsWords) → IsNoRecordsClock records (Command CannotWrite) → ⊥
no_clock None none = none
no_clock (Some words) none = none
