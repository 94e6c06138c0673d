-- What was kept of a day that was run.
use Rattle.std.proofs.Common.{◌≡◌, ◌∙◌, ◌⊎◌, ℕ, inl, inr, Bool, true, false, List, Option, Some, None, Result, Ok, Err, OnOk, refl, sym, subst}
use Rattle.std.specs.Prelude.{IfErr}
use Rattle.bx_devices.specs.Watching.{device_of}
use Rattle.bx_devices.specs.declared.watched.Watched.{Watched}
use Rattle.bx_events.specs.Events.{Event}
use Rattle.bx_frames.specs.Courses.{told}
use Rattle.bx_capture.specs.Captures.{IsCaptured, Keeps, is_unfaulted}
use Rattle.bx_far.specs.FarDay.{FarDay}
use Rattle.bx_day_openings.specs.CaptureOpenings.{IsFileFor}
use Rattle.bx_day_openings.specs.OpeningRefusals.{IsNoFile}
use Rattle.bx_day_openings.specs.declared.fault.DayCommandFault.{DayCommandFault}
use Rattle.bx_request.specs.declared.request.CaptureWords.{CaptureWords}
use Rattle.bx_request.specs.declared.request.FarRequest.{FarRequest}
use Rattle.bx_far_commands.specs.CapturedDays.{IsCaptureOf, IsFarDone}
use Rattle.bx_far_commands.specs.Days.{far_packets}
use Rattle.bx_far_commands.specs.FarRefusals.{IsFarRefusal}

-- what a capture has kept, from its file and its first second on
pub kept_in : {D F : Type 0} {next : D → Event → D} {packets : ℕ → D → Event → List ℕ} {contents : F → Option (List ℕ)} {file opened closed left : Option (Watched F)} {first n m : ℕ} {d d1 : D} (events : List Event)
    → opened ≡ file → n ≡ first → left ≡ closed → IsCaptured next packets contents n m opened closed d d1 events → Keeps contents file left (told next (packets first) events d)
kept_in {F = F} {next = next} {packets = packets} {contents = contents} {file = file} {opened = opened} {closed = closed} {first = first} {d = d} events same at is captured =
    subst (λ (o : Option (Watched F)). Keeps contents file o (told next (packets first) events d)) (sym is)
    (subst (λ (o : Option (Watched F)). Keeps contents o closed (told next (packets first) events d)) same (subst (λ (k : ℕ). Keeps contents opened closed (told next (packets k) events d)) at captured.kept))

abbrev pub far_are_kept : {F : Type 0} → (F → Option (List ℕ)) → Option (Watched F) → Option (Watched F) → ℕ → List Event → FarDay → Type 0
far_are_kept contents file closed first events opened = Keeps contents file closed (far_packets first events opened)

-- ---- where nothing is to be captured, all of that was

no_file : {F : Type 0} (contents : F → Option (List ℕ)) (file closed : Option (Watched F)) (packets : List ℕ) → IsFileFor contents None file → Keeps contents file closed packets → is_unfaulted closed ≡ true
no_file contents None None packets opens keeps = refl
no_file contents None (Some w) packets opens keeps = absurd keeps
no_file contents (Some w) closed packets opens keeps = absurd opens

pub whole_capture : {F : Type 0} {contents : F → Option (List ℕ)} (capture : Option CaptureWords) (packets : ℕ → List ℕ) (is_whole : Bool) → capture ≡ None → IsCaptureOf contents capture packets is_whole → is_whole ≡ true
whole_capture {contents = contents} capture packets is_whole none kept =
    kept.kept.whole ∙ no_file contents kept.file kept.kept.closed (packets kept.first) (subst (λ (c : Option CaptureWords). IsFileFor contents c kept.file) none kept.opens) kept.kept.keeps

pub done_whole : {F : Type 0} (files : F → Option (List ℕ)) (capture : Option CaptureWords) (before after : Option (List ℕ)) (is_whole : Bool) → (is_whole ≡ true) ⊎ (capture ≡ None) → IsFarDone files capture before after is_whole → IsFarDone files capture before after true
done_whole files capture before after is_whole (inl whole) done = subst (IsFarDone files capture before after) whole done
done_whole files capture before after is_whole (inr none) done = subst (IsFarDone files capture before after) (whole_capture capture _ is_whole none done.1) done

pub all_told : {F E : Type 0} (files : F → Option (List ℕ)) (capture : Option CaptureWords) (before after : Option (List ℕ)) (is_whole : Bool) → IsFarDone files capture before after is_whole → (r : Result (Unit {0}) E) → OnOk r ((is_whole ≡ true) ⊎ (capture ≡ None)) → OnOk r (IsFarDone files capture before after true)
all_told files capture before after is_whole done (Ok tt) whole = done_whole files capture before after is_whole whole done
all_told files capture before after is_whole done (Err fault) whole = whole

pub cut_refusal : {F W : Type 0} (files : F → Option (List ℕ)) (contents : W → Option (List ℕ)) (request : FarRequest) (old new : Watched W) (is_whole : Bool) → IsFarDone files request.sight.capture (contents (device_of old)) (contents (device_of new)) is_whole
    → (r : Result (Unit {0}) DayCommandFault) → IfErr r (λ fault. IsNoFile request.sight.capture fault × (is_whole ≡ false)) → IfErr r (IsFarRefusal files request contents old new)
cut_refusal files contents request old new is_whole done (Ok tt) cut = cut
cut_refusal files contents request old new is_whole done (Err fault) (no_file, cut) = inr (subst (IsFarDone files request.sight.capture (contents (device_of old)) (contents (device_of new))) cut done, no_file)
