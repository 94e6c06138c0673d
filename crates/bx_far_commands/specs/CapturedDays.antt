-- What was captured of the day of a far end.
use Rattle.std.specs.Prelude.{◌≡◌, ℕ, Bool, List, Option, true}
use Rattle.bx_devices.specs.declared.watched.Watched.{Watched}
use Rattle.bx_capture.specs.Captures.{Keeps, is_unfaulted}
use Rattle.bx_day_openings.specs.CaptureOpenings.{IsFirstOf, IsFileFor}
use Rattle.bx_request.specs.declared.request.CaptureWords.{CaptureWords}
use Rattle.bx_events.specs.Events.{Event}
use Rattle.bx_far.specs.FarDay.{FarDay}
use Rattle.bx_day_openings.specs.Openings.{IsFarOpening}
use Rattle.bx_far_commands.specs.Days.{IsFarTold, far_packets, far_packets_of}
use Rattle.bx_devices.specs.Devices.{Writing}

-- where there is a file, it took these packets, and whether it took them all
pub record AreKept {F : Type 0} (contents : F → Option (List ℕ)) (file : Option (Watched F)) (packets : List ℕ) (is_whole : Bool) : Type 0 where
  pub closed : Option (Watched F)
  pub keeps : Keeps contents file closed packets
  pub whole : is_whole ≡ is_unfaulted closed

-- where something is to be captured, a file was opened for it and took these packets, and whether it took them all
pub record IsCaptureOf {F : Type 0} (contents : F → Option (List ℕ)) (capture : Option CaptureWords) (packets : ℕ → List ℕ) (is_whole : Bool) : Type 0 where
  pub file : Option (Watched F)
  pub first : ℕ
  pub opens : IsFileFor contents capture file
  pub begins : IsFirstOf capture first
  pub kept : AreKept contents file (packets first) is_whole

-- the moment was written that the day of a far end has reached, and just this day was captured
abbrev pub IsFarDone : {F : Type 0} → (F → Option (List ℕ)) → Option CaptureWords → Option (List ℕ) → Option (List ℕ) → Bool → Type 0
IsFarDone contents capture before after is_captured = (told : IsFarTold before after) × IsCaptureOf contents capture (far_packets_of told.run) is_captured

-- the day was opened, went on by some events, and stopped: what was captured of it are the packets of these events
pub record IsFarStopped {F : Type 0} (contents : F → Option (List ℕ)) (capture : Option CaptureWords) : Type 0 where
  pub opened : FarDay
  pub opens : IsFarOpening opened
  pub file : Option (Watched F)
  pub first : ℕ
  pub file_opens : IsFileFor contents capture file
  pub begins : IsFirstOf capture first
  pub events : List Event
  pub closed : Option (Watched F)
  pub keeps : Keeps contents file closed (far_packets first events opened)

-- the same of an output, where all of the day was captured
abbrev pub IsFarDoneWhole : {F : Type 0} → (F → Option (List ℕ)) → Option CaptureWords → Writing → Type 0
IsFarDoneWhole contents capture output = IsFarDone contents capture output.before output.after true
