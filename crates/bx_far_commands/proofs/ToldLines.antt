-- What is told of a day over a data link, and what is not.
use Rattle.std.proofs.Common.{◌≡◌, ◌∙◌, ◌⊎◌, ℕ, inl, inr, Bool, true, false, List, [], ◌∷◌, Option, Some, None, Result, Ok, Err, OnOk, refl, ap, sym, subst}
use Rattle.std.specs.Prelude.{IfErr}
use Rattle.bx_capture.specs.Captures.{Keeps, is_unfaulted}
use Rattle.bx_check_commands.specs.declared.fault.CommandFault.TheVariants.{CannotWrite}
use Rattle.bx_day_openings.specs.CaptureOpenings.{IsFileFor}
use Rattle.bx_day_openings.specs.OpeningRefusals.{IsNoFile, IsNoLine}
use Rattle.bx_day_openings.specs.declared.fault.DayCommandFault.{DayCommandFault}
use Rattle.bx_day_openings.specs.declared.fault.DayCommandFault.TheVariants.{Command}
use Rattle.bx_devices.specs.Watching.{device_of}
use Rattle.bx_devices.specs.declared.watched.Watched.{Watched}
use Rattle.bx_far_commands.specs.LineDays.{AreCaptured, IsFarLineDone, capture_of}
use Rattle.bx_far_commands.specs.LineRefusals.{StopsFarLine, IsFarLineRefusal}
use Rattle.bx_frames.specs.declared.frame.Frame.TheVariants as frames
use Rattle.bx_live.specs.Acts.{Act, Began, Dropped, Logged, Synced, Wrote, Read, Took, EndedDay}
use Rattle.bx_live.specs.Chains.{Chain, chain_first}
use Rattle.bx_request.specs.declared.request.CaptureWords.{CaptureWords}
use Rattle.bx_request.specs.declared.request.FarLineRequest.{FarLineRequest}
use Rattle.bx_world.specs.Captures.{Captures}
use Rattle.bx_world.specs.declared.captured.CapturedWorld.{CapturedWorld}

-- ---- where nothing is to be captured, all of that was

module _ {F : Type 0} (contents : F → Option (List ℕ)) where
  none_kept : (file closed : Option (Watched F)) (packets : List ℕ) → file ≡ None → Keeps contents file closed packets → closed ≡ None
  none_kept None None packets none keeps = refl
  none_kept None (Some w) packets none keeps = absurd keeps
  none_kept (Some w) closed packets none keeps = cc

  no_file : (file : Option (Watched F)) → IsFileFor contents None file → file ≡ None
  no_file None opens = refl
  no_file (Some w) opens = absurd opens

module _ {W F : Type 0} (contents : F → Option (List ℕ)) where
  none_captured : (acts : List Act) (old new : CapturedWorld W F) → Chain (Captures contents) old acts new → old.file ≡ None → new.file ≡ None
  none_captured [] old new chain none = ap (λ (c : CapturedWorld W F). c.file) (sym chain) ∙ none
  none_captured (Wrote octets done ∷ acts) old new chain none =
      let (mid, step, more) = chain_first (Captures contents) old new (Wrote octets done) acts chain in
      let (messages, framed, keeps) = step.file in
      none_captured acts mid new more (none_kept contents old.file mid.file _ none keeps)
  none_captured (Read room (Ok (frames.Message message)) ∷ acts) old new chain none =
      let (mid, step, more) = chain_first (Captures contents) old new (Read room (Ok (frames.Message message))) acts chain in none_captured acts mid new more (none_kept contents old.file mid.file _ none step.file)
  none_captured (Read room (Ok (frames.EndOfTurn said)) ∷ acts) old new chain none =
      let (mid, step, more) = chain_first (Captures contents) old new (Read room (Ok (frames.EndOfTurn said))) acts chain in none_captured acts mid new more (step.file ∙ none)
  none_captured (Read room (Ok frames.EndOfDay) ∷ acts) old new chain none = let (mid, step, more) = chain_first (Captures contents) old new (Read room (Ok frames.EndOfDay)) acts chain in none_captured acts mid new more (step.file ∙ none)
  none_captured (Read room (Err fault) ∷ acts) old new chain none = let (mid, step, more) = chain_first (Captures contents) old new (Read room (Err fault)) acts chain in none_captured acts mid new more (step.file ∙ none)
  none_captured (Took (Some message) ∷ acts) old new chain none =
      let (mid, step, more) = chain_first (Captures contents) old new (Took (Some message)) acts chain in none_captured acts mid new more (none_kept contents old.file mid.file _ none step.file)
  none_captured (Took None ∷ acts) old new chain none = let (mid, step, more) = chain_first (Captures contents) old new (Took None) acts chain in none_captured acts mid new more (step.file ∙ none)
  none_captured (Began second begin ∷ acts) old new chain none = let (mid, step, more) = chain_first (Captures contents) old new (Began second begin) acts chain in none_captured acts mid new more (step.file ∙ none)
  none_captured (Dropped loss ∷ acts) old new chain none = let (mid, step, more) = chain_first (Captures contents) old new (Dropped loss) acts chain in none_captured acts mid new more (step.file ∙ none)
  none_captured (Logged event done ∷ acts) old new chain none = let (mid, step, more) = chain_first (Captures contents) old new (Logged event done) acts chain in none_captured acts mid new more (step.file ∙ none)
  none_captured (Synced done ∷ acts) old new chain none = let (mid, step, more) = chain_first (Captures contents) old new (Synced done) acts chain in none_captured acts mid new more (step.file ∙ none)
  none_captured (EndedDay ∷ acts) old new chain none = let (mid, step, more) = chain_first (Captures contents) old new EndedDay acts chain in none_captured acts mid new more (step.file ∙ none)

  all_captured : (capture : Option CaptureWords) (file : Option (Watched F)) (first : ℕ) (acts : List Act) (is_whole : Bool) → capture ≡ None → IsFileFor contents capture file → AreCaptured W contents file first acts is_whole → is_whole ≡ true
  all_captured capture file first acts is_whole none opens captured =
      let none_opened = no_file contents file (subst (λ (c : Option CaptureWords). IsFileFor contents c file) none opens) in
      captured.whole ∙ ap (λ (o : Option (Watched F)). is_unfaulted o) (none_captured acts captured.old captured.new captured.captures (captured.into ∙ none_opened))

module _ {F : Type 0} (H : Type 0) (files : F → Option (List ℕ)) (request : FarLineRequest) where
  done_whole : (before after : Option (List ℕ)) (is_whole : Bool) → (is_whole ≡ true) ⊎ (capture_of request ≡ None) → IsFarLineDone H files request before after is_whole → IsFarLineDone H files request before after true
  done_whole before after is_whole (inl whole) done = subst (IsFarLineDone H files request before after) whole done
  done_whole before after is_whole (inr none) done =
      let day = done.day in
      subst (IsFarLineDone H files request before after) (all_captured files (capture_of request) day.file day.hours.first day.ran.acts is_whole none day.file_opens day.ran.captured) done

  pub all_told : {E : Type 0} (words : Option CaptureWords) (before after : Option (List ℕ)) (is_whole : Bool) → words ≡ capture_of request → IsFarLineDone H files request before after is_whole → (r : Result (Unit {0}) E) → OnOk r ((is_whole ≡ true) ⊎ (words ≡ None))
      → OnOk r (IsFarLineDone H files request before after true)
  all_told words before after is_whole same done (Ok tt) whole = done_whole before after is_whole (subst (λ (c : Option CaptureWords). (is_whole ≡ true) ⊎ (c ≡ None)) same whole) done
  all_told words before after is_whole same done (Err fault) whole = whole

  pub cut_refusal : {W : Type 0} (contents : W → Option (List ℕ)) (words : Option CaptureWords) (old new : Watched W) (is_whole : Bool) → words ≡ capture_of request → IsFarLineDone H files request (contents (device_of old)) (contents (device_of new)) is_whole
      → (r : Result (Unit {0}) DayCommandFault) → IfErr r (λ fault. IsNoFile words fault × (is_whole ≡ false)) → IfErr r (IsFarLineRefusal H files request contents old new)
  cut_refusal contents words old new is_whole same done (Ok tt) cut = cut
  cut_refusal contents words old new is_whole same done (Err fault) (no_file, cut) =
      inr (subst (IsFarLineDone H files request (contents (device_of old)) (contents (device_of new))) cut done, subst (λ (c : Option CaptureWords). IsNoFile c fault) same no_file)

  -- ---- a reason why nothing is told is no failed write

  no_line : IsNoLine (Command CannotWrite) → ⊥
  no_line (inl p) = p
  no_line (inr p) = p

  pub line_writes : StopsFarLine files request (Command CannotWrite) → ⊥
  line_writes (inl p) = p
  line_writes (inr (inl p)) = p.1
  line_writes (inr (inr (inl p))) = p.2
  line_writes (inr (inr (inr p))) = no_line p.3
