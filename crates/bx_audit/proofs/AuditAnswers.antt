-- What an audit answers, by what it called.
use Rattle.std.proofs.Common.{◌≡◌, ◌⊎◌, inl, inr, ℕ, Bool, true, false, List, Option, Some, None, refl, subst, ◌∙◌}
use Rattle.bx_capture.specs.Captures.{Keeps, is_unfaulted}
use Rattle.bx_check_commands.specs.declared.fault.CommandFault.TheVariants.{CannotWrite}
use Rattle.bx_day.specs.Day.{Day}
use Rattle.bx_day.specs.declared.outcome.GivenUp.{GivenUp}
use Rattle.bx_day_openings.specs.CaptureOpenings.{IsFileFor}
use Rattle.bx_day_openings.specs.OpeningRefusals.{IsNoFile}
use Rattle.bx_day_openings.specs.declared.fault.DayCommandFault.{DayCommandFault}
use Rattle.bx_day_openings.specs.declared.fault.DayCommandFault.TheVariants.{Command, CannotWriteFile}
use Rattle.bx_devices.specs.Watching.{device_of}
use Rattle.bx_devices.specs.declared.watched.Watched.{Watched}
use Rattle.bx_request.specs.declared.request.AuditRequest.{AuditRequest}
use Rattle.bx_request.specs.declared.request.CaptureWords.{CaptureWords}
use Rattle.bx_audit.specs.AuditRefusals.{StopsAudit, IsAuditRefusalBy}
use Rattle.bx_audit.specs.Audits.{IsDayAuditedBy, IsAuditToldBy}
use Rattle.bx_audit.specs.Inside.{IsReadFor}

-- no audit stops at its output
no_output : (gives journals : List ℕ → Option (List ℕ) → Type 0) (request : AuditRequest) → StopsAudit gives journals request (Command CannotWrite) → ⊥
no_output gives journals request (inl why) = why
no_output gives journals request (inr (inl (first, why))) = why
no_output gives journals request (inr (inr (inl (first, (opened, channels, digest, opens, why))))) = why
no_output gives journals request (inr (inr (inr (first, journal, why)))) = why

module _ {F W : Type 0} (gives journals : List ℕ → Option (List ℕ) → Type 0) (request : AuditRequest) (files : F → Option (List ℕ)) (contents : W → Option (List ℕ)) where
  pub stopped : (output : Watched W) (fault : DayCommandFault) → StopsAudit gives journals request fault → IsAuditRefusalBy gives journals request files contents output output fault
  stopped output (Command CannotWrite) why = absurd (no_output gives journals request why)
  stopped output fault why = inl (why, refl)

  pub uncaptured : (old new : Watched W) (fault : DayCommandFault) → IsAuditToldBy gives journals files request (contents (device_of old)) (contents (device_of new)) false → IsNoFile request.capture fault → IsAuditRefusalBy gives journals request files contents old new fault
  uncaptured old new (Command CannotWrite) told none = absurd none
  uncaptured old new fault told none = inr (told, none)

none_kept : {F : Type 0} (contents : F → Option (List ℕ)) (file closed : Option (Watched F)) (octets : List ℕ) → IsFileFor contents None file → Keeps contents file closed octets → is_unfaulted closed ≡ true
none_kept contents None None octets opens kept = refl
none_kept contents None (Some closed) octets opens kept = absurd kept
none_kept contents (Some file) closed octets opens kept = absurd opens

pub whole_without : {F : Type 0} (gives journals : List ℕ → Option (List ℕ) → Type 0) (contents : F → Option (List ℕ)) (request : AuditRequest) (day : Day) (given_up : List (Option GivenUp)) (is_whole : Bool) → IsDayAuditedBy gives journals contents request day given_up is_whole → (is_whole ≡ true) ⊎ (request.capture ≡ None) → is_whole ≡ true
whole_without gives journals contents request day given_up is_whole a (inl whole) = whole
whole_without gives journals contents request day given_up is_whole a (inr none) = a.whole ∙ none_kept contents a.file a.closed a.audited.octets (subst (λ (c : Option CaptureWords). IsFileFor contents c a.file) none a.file_opens) a.audited.kept

-- what was read through was for a capture, if there is to be one
pub for_capture : (capture : Option CaptureWords) (P : Type 0) → P → IsReadFor capture P
for_capture None P read = tt
for_capture (Some words) P read = read

-- what was read through for a capture, whose file is none
pub of_capture : (capture : Option CaptureWords) (P : Type 0) (fault : DayCommandFault) → IsReadFor capture P → IsNoFile capture fault → P
of_capture None P (CannotWriteFile name) read none = absurd none
of_capture None P fault read none = absurd none
of_capture (Some words) P fault read none = read
