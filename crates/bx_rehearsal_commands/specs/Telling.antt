-- What was told of a day after its end.
use Rattle.std.specs.Prelude.{◌≡◌, ℕ, true, List, [], Option, Result, Ok}
use Rattle.std.specs.Io.KnownBytes.{Appends}
use Rattle.bx_check_commands.specs.declared.fault.CommandFault.TheVariants.{CannotWrite}
use Rattle.bx_day.specs.Telling.{outcomes_text}
use Rattle.bx_day_openings.specs.Recording.{IsRecording, IsAllKept, IsUnkept}
use Rattle.bx_day_openings.specs.declared.fault.DayCommandFault.{DayCommandFault}
use Rattle.bx_day_openings.specs.declared.fault.DayCommandFault.TheVariants.{Command}
use Rattle.bx_devices.specs.Devices.{Writing}
use Rattle.bx_devices.specs.Octets.{AppendsPrefix}
use Rattle.bx_request.specs.declared.request.CaptureWords.{CaptureWords}
use Rattle.bx_journal_files.specs.declared.fault.LiveFault.{LiveFault}
use Rattle.bx_journal_files.specs.declared.fault.LiveFault.TheVariants.{Day as OfDay}
use Rattle.bx_rehearsal_commands.specs.declared.telling.Ended.{Ended}

-- what became of each booking was written, and the records, or not
pub record IsTold {F : Type 0} (files : F → Option (List ℕ)) (ended : Ended F) (output : Writing) (recorded : Result (Unit {0}) DayCommandFault) : Type 0 where
  pub written : Appends output.before output.after (outcomes_text [] ended.exchange)
  pub records : IsRecording files ended.exchange.entries ended.records recorded

-- and all that was to be captured and recorded was
pub record IsToldWhole {F : Type 0} (files : F → Option (List ℕ)) (capture : Option CaptureWords) (ended : Ended F) (output : Writing) : Type 0 where
  pub told : IsTold files ended output (Ok tt)
  pub kept : IsAllKept capture ended.is_whole (Ok tt)

-- a prefix of what became of the bookings was written, and the records, or not
pub record IsTellingCut {F : Type 0} (files : F → Option (List ℕ)) (ended : Ended F) (output : Writing) : Type 0 where
  pub faulted : output.is_faulted ≡ true
  pub written : AppendsPrefix output.before output.after (outcomes_text [] ended.exchange)
  pub recorded : Result (Unit {0}) DayCommandFault
  pub records : IsRecording files ended.exchange.entries ended.records recorded

-- all was told, but the capture or the records are not whole
pub record IsUnwhole {F : Type 0} (files : F → Option (List ℕ)) (capture : Option CaptureWords) (ended : Ended F) (output : Writing) (fault : DayCommandFault) : Type 0 where
  pub recorded : Result (Unit {0}) DayCommandFault
  pub told : IsTold files ended output recorded
  pub unkept : IsUnkept capture ended.is_whole recorded fault

abbrev pub IsNotToldWhole : {F : Type 0} → (F → Option (List ℕ)) → Option CaptureWords → Ended F → Writing → LiveFault → Type 0
IsNotToldWhole files capture ended output (OfDay (Command CannotWrite)) = IsTellingCut files ended output
IsNotToldWhole files capture ended output (OfDay fault) = IsUnwhole files capture ended output fault
IsNotToldWhole files capture ended output fault = ⊥
