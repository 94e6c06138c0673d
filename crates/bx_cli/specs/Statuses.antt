-- What a status says of the command that was asked for.
use Rattle.std.specs.Prelude.{◌≡◌, ◌⊎◌, ℕ, Bool, true, false, List, Option, Result, Ok, Err}
use Rattle.std.specs.Io.KnownBytes.{Appends}
use Rattle.std.specs.String.{string_bytes}
use Rattle.bx_devices.specs.Devices.{writing_of}
use Rattle.bx_devices.specs.Octets.{AppendsPrefix}
use Rattle.bx_devices.specs.Watching.{device_of, is_faulted}
use Rattle.bx_devices.specs.declared.watched.Watched.{Watched}
use Rattle.bx_audit.specs.Audits.{IsAuditTold}
use Rattle.bx_audit.specs.AuditRefusals.{IsAuditRefusal}
use Rattle.bx_audit.specs.Recorded.{AreRecordsWritten}
use Rattle.bx_audit.specs.Unrecorded.{IsRecordsCommandRefusal}
use Rattle.bx_audit.specs.Charted.{IsDayCharted}
use Rattle.bx_audit.specs.LastPlans.{IsSoldTold}
use Rattle.bx_audit.specs.Uncharted.{IsDayChartCommandRefusal}
use Rattle.bx_audit.specs.Unsold.{IsSoldRefusal}
use Rattle.bx_check_commands.specs.Inputs.{GivesStandard}
use Rattle.bx_check_commands.specs.Decoding.{IsDecoded, IsDecodeRefusal}
use Rattle.bx_check_commands.specs.declared.fault.CommandFault.{CommandFault}
use Rattle.bx_day_openings.specs.declared.fault.DayCommandFault.{DayCommandFault}
use Rattle.bx_far_commands.specs.CapturedDays.{IsFarDone}
use Rattle.bx_far_commands.specs.FarRefusals.{IsFarRefusal}
use Rattle.bx_far_commands.specs.LineDays.{IsFarLineDone}
use Rattle.bx_far_commands.specs.LineRefusals.{IsFarLineRefusal}
use Rattle.bx_live_commands.specs.LiveDays.{IsLiveTold}
use Rattle.bx_live_commands.specs.LiveRefusals.{IsLiveRefusal}
use Rattle.bx_rehearsal_commands.specs.RehearsedDays.{IsRehearsalTold}
use Rattle.bx_rehearsal_commands.specs.RehearsalRefusals.{IsRehearsalRefusal}
use Rattle.bx_journal_files.specs.Lasting.{does_last}
use Rattle.bx_journal_files.specs.declared.fault.LiveFault.{LiveFault}
use Rattle.bx_plan_commands.specs.FileRequests as plans
use Rattle.bx_plan_commands.specs.declared.fault.FileFault.{FileFault}
use Rattle.bx_request.specs.Locations.{IsMet, NoFileMeets}
use Rattle.bx_request.specs.declared.locations.Location.{Location}
use Rattle.bx_request.specs.declared.request.Request.{Request}
use Rattle.bx_request.specs.declared.request.Request.TheVariants.{Files, Rehearsal, Far, FarLine, Live, Audit, Records, Sold, DayChart, Decode}
use Rattle.bx_words.specs.declared.reading.Refusal.{Refusal}
use Rattle.bx_words.specs.declared.reading.Refusal.TheVariants.{Memory, Help, Wrong}

-- at 0: it is done by a program of such a host, where this was left on standard input
abbrev pub IsRequestDone : {F W : Type 0} → Type 0 → Option (List ℕ) → Request → (F → Option (List ℕ)) → (W → Option (List ℕ)) → Watched W → Watched W → Type 0
IsRequestDone H left (Files request) files contents old new = plans.IsDone (GivesStandard left) request (writing_of contents old new)
IsRequestDone H left (Rehearsal request) files contents old new = IsRehearsalTold files request (contents (device_of old)) (contents (device_of new)) true (Ok tt)
IsRequestDone H left (Far request) files contents old new = IsFarDone files request.sight.capture (contents (device_of old)) (contents (device_of new)) true
IsRequestDone H left (FarLine request) files contents old new = IsFarLineDone H files request (contents (device_of old)) (contents (device_of new)) true
IsRequestDone H left (Live request) files contents old new = IsLiveTold H files request (contents (device_of old)) (contents (device_of new))
IsRequestDone H left (Audit request) files contents old new = IsAuditTold (GivesStandard left) files request (contents (device_of old)) (contents (device_of new)) true
IsRequestDone H left (Records request) files contents old new = AreRecordsWritten (GivesStandard left) request (writing_of contents old new)
IsRequestDone H left (Sold request) files contents old new = IsSoldTold (GivesStandard left) request (writing_of contents old new)
IsRequestDone H left (DayChart request) files contents old new = IsDayCharted (GivesStandard left) request (writing_of contents old new)
IsRequestDone H left (Decode octets) files contents old new = IsDecoded octets.now (writing_of contents old new)

-- at 1: it was refused, by a fault that says why; a live day by one that a start again may mend
abbrev pub IsRequestRefused : {F W : Type 0} → Type 0 → Option (List ℕ) → Request → (F → Option (List ℕ)) → (W → Option (List ℕ)) → Watched W → Watched W → Type 0
IsRequestRefused H left (Files request) files contents old new = (fault : FileFault) × plans.IsFileRefused (GivesStandard left) request contents old new fault
IsRequestRefused H left (Rehearsal request) files contents old new = (fault : LiveFault) × IsRehearsalRefusal files request contents old new fault
IsRequestRefused H left (Far request) files contents old new = (fault : DayCommandFault) × IsFarRefusal files request contents old new fault
IsRequestRefused H left (FarLine request) files contents old new = (fault : DayCommandFault) × IsFarLineRefusal H files request contents old new fault
IsRequestRefused H left (Live request) files contents old new = (fault : LiveFault) × IsLiveRefusal H files request contents old new fault × (does_last fault ≡ false)
IsRequestRefused H left (Audit request) files contents old new = (fault : DayCommandFault) × IsAuditRefusal (GivesStandard left) request files contents old new fault
IsRequestRefused H left (Records request) files contents old new = (fault : DayCommandFault) × IsRecordsCommandRefusal (GivesStandard left) request contents old new fault
IsRequestRefused H left (Sold request) files contents old new = (fault : DayCommandFault) × IsSoldRefusal (GivesStandard left) request contents old new fault
IsRequestRefused H left (DayChart request) files contents old new = (fault : DayCommandFault) × IsDayChartCommandRefusal (GivesStandard left) request contents old new fault
IsRequestRefused H left (Decode octets) files contents old new = (fault : CommandFault) × IsDecodeRefusal octets.now (writing_of contents old new) fault

-- at 3: it is a live day that was refused by a fault which a start again cannot mend
abbrev pub IsRefusedForGood : {F W : Type 0} → Type 0 → Request → (F → Option (List ℕ)) → (W → Option (List ℕ)) → Watched W → Watched W → Type 0
IsRefusedForGood H (Live request) files contents old new = (fault : LiveFault) × IsLiveRefusal H files request contents old new fault × (does_last fault ≡ true)
IsRefusedForGood H _ files contents old new = ⊥

abbrev pub is_live_day : Request → Bool
is_live_day (Live request) = true
is_live_day _ = false

-- ---- what a status says of the answer to the words of the command line

-- at 0
abbrev pub IsAnswerDone : {F W : Type 0} → Type 0 → (List ℕ → Option Location → Type 0) → Option (List ℕ) → Result Request Refusal → (F → Option (List ℕ)) → (W → Option (List ℕ)) → Watched W → Watched W → Type 0
IsAnswerDone H tells left (Ok request) files contents old new = NoFileMeets tells request × IsRequestDone H left request files contents old new
IsAnswerDone H tells left (Err (Help text)) files contents old new = Appends (contents (device_of old)) (contents (device_of new)) (string_bytes text)
IsAnswerDone H tells left (Err (Wrong text)) files contents old new = ⊥
IsAnswerDone H tells left (Err Memory) files contents old new = ⊥

-- two files of it are one, of which one would be written, and nothing was done
abbrev pub AreMet : {W : Type 0} → (List ℕ → Option Location → Type 0) → Request → Watched W → Watched W → Type 0
AreMet tells request old new = (met : List ℕ) × IsMet tells request met × (new ≡ old)

-- at 1
abbrev pub IsAnswerRefused : {F W : Type 0} → Type 0 → (List ℕ → Option Location → Type 0) → Option (List ℕ) → Result Request Refusal → (F → Option (List ℕ)) → (W → Option (List ℕ)) → Watched W → Watched W → Type 0
IsAnswerRefused H tells left (Ok request) files contents old new = (NoFileMeets tells request × IsRequestRefused H left request files contents old new) ⊎ ((is_live_day request ≡ false) × AreMet tells request old new)
IsAnswerRefused H tells left (Err (Help text)) files contents old new = (is_faulted new ≡ true) × AppendsPrefix (contents (device_of old)) (contents (device_of new)) (string_bytes text)
IsAnswerRefused H tells left (Err (Wrong text)) files contents old new = ⊥
IsAnswerRefused H tells left (Err Memory) files contents old new = new ≡ old

-- at 2
abbrev pub IsAnswerWrong : {W : Type 0} → Result Request Refusal → Watched W → Watched W → Type 0
IsAnswerWrong (Ok request) old new = ⊥
IsAnswerWrong (Err (Help text)) old new = ⊥
IsAnswerWrong (Err (Wrong text)) old new = new ≡ old
IsAnswerWrong (Err Memory) old new = ⊥

-- at 3
abbrev pub IsAnswerLost : {F W : Type 0} → Type 0 → (List ℕ → Option Location → Type 0) → Result Request Refusal → (F → Option (List ℕ)) → (W → Option (List ℕ)) → Watched W → Watched W → Type 0
IsAnswerLost H tells (Ok request) files contents old new = (NoFileMeets tells request × IsRefusedForGood H request files contents old new) ⊎ ((is_live_day request ≡ true) × AreMet tells request old new)
IsAnswerLost H tells (Err refusal) files contents old new = ⊥
