-- What a file has kept, and what it keeps after that.
use Rattle.std.proofs.Common.{◌≡◌, ℕ, Bool, true, false, List, [], ◌++◌, refl, sym, ap, ◌∙◌, subst, true≢false, Option, Some, None}
use Rattle.std.proofs.Math.Nat.{le_refl}
use Rattle.std.proofs.KnownBytes.{Appends-nil, Appends-trans}
use Rattle.bx_devices.proofs.OctetLemmas.{AppendsPrefix-more, AppendsPrefix-after}
use Rattle.bx_devices.specs.declared.watched.Watched.{Watched}
use Rattle.bx_devices.specs.Watching.{device_of, is_faulted}
use Rattle.bx_events.specs.Events.{Event}
use Rattle.bx_frames.specs.Courses.{after, told}
use Rattle.bx_frames.proofs.Events.{after_more, told_more}
use Rattle.bx_capture.specs.Captures.{IsKept, Keeps, IsCaptured}

module _ {W : Type 0} (contents : W → Option (List ℕ)) where
  nothing_kept : (w : Watched W) → IsKept contents w w []
  nothing_kept w = record {
    whole = λ e. Appends-nil (contents (device_of w));
    part = (0, le_refl 0, Appends-nil (contents (device_of w)));
    stopped = λ e. refl;
  }

  pub keeps_nil : (file : Option (Watched W)) → Keeps contents file file []
  keeps_nil None = tt
  keeps_nil (Some w) = nothing_kept w

  module _ (w w1 w2 : Watched W) (bs cs : List ℕ) (p : IsKept contents w w1 bs) (q : IsKept contents w1 w2 cs) where
    by_first : (b : Bool) → is_faulted w1 ≡ b → IsKept contents w w2 (bs ++ cs)
    by_first true failed =
        let same : w2 ≡ w1 = q.stopped failed in
        subst (λ (x : Watched W). IsKept contents w x (bs ++ cs)) (sym same) (record {
          whole = λ e. absurd (true≢false (sym failed ∙ e));
          part = AppendsPrefix-more (contents (device_of w)) (contents (device_of w1)) bs cs p.part;
          stopped = p.stopped;
        })
    by_first false fine = record {
      whole = λ e. Appends-trans (contents (device_of w)) (contents (device_of w1)) (contents (device_of w2)) bs cs (p.whole fine) (q.whole e);
      part = AppendsPrefix-after (contents (device_of w)) (contents (device_of w1)) (contents (device_of w2)) bs cs (p.whole fine) q.part;
      stopped = λ e.
          let same : w1 ≡ w = p.stopped e in
          absurd (true≢false (sym e ∙ sym (ap (λ (x : Watched W). is_faulted x) same) ∙ fine));
    }

    both_kept : IsKept contents w w2 (bs ++ cs)
    both_kept = by_first (is_faulted w1) refl

  pub keeps_more : (file file1 file2 : Option (Watched W)) (bs cs : List ℕ) → Keeps contents file file1 bs → Keeps contents file1 file2 cs → Keeps contents file file2 (bs ++ cs)
  keeps_more None None None bs cs p q = tt
  keeps_more (Some w) (Some w1) (Some w2) bs cs p q = both_kept w w1 w2 bs cs p q
  keeps_more None (Some w1) file2 bs cs p q = absurd p
  keeps_more (Some w) None file2 bs cs p q = absurd p
  keeps_more None None (Some w2) bs cs p q = absurd q
  keeps_more (Some w) (Some w1) None bs cs p q = absurd q

module _ {D W : Type 0} {next : D → Event → D} {packets : ℕ → D → Event → List ℕ} {contents : W → Option (List ℕ)} where
  pub captured_nothing : {first : ℕ} {file : Option (Watched W)} {d : D} → IsCaptured next packets contents first first file file d d []
  captured_nothing {file = file} = record { day = refl; stays = refl; kept = keeps_nil contents file }

  pub captured_on : {first first1 first2 : ℕ} {file file1 file2 : Option (Watched W)} {d d1 d2 : D} (xs ys : List Event) → IsCaptured next packets contents first first1 file file1 d d1 xs
      → IsCaptured next packets contents first1 first2 file1 file2 d1 d2 ys → IsCaptured next packets contents first first2 file file2 d d2 (xs ++ ys)
  captured_on {first = first} {file = file} {file1 = file1} {file2 = file2} {d = d} {d1 = d1} xs ys p q =
      let told_here = told next (packets first) in
      let later : Keeps contents file1 file2 (told_here ys d1) = subst (λ (n : ℕ). Keeps contents file1 file2 (told next (packets n) ys d1)) p.stays q.kept in
      record {
        day = q.day ∙ ap (after next ys) p.day ∙ sym (after_more next xs ys d);
        stays = q.stays ∙ p.stays;
        kept = subst (Keeps contents file file2) (ap (λ (x : D). told_here xs d ++ told_here ys x) p.day ∙ sym (told_more next (packets first) xs ys d))
            (keeps_more contents file file1 file2 (told_here xs d) (told_here ys d1) p.kept later);
      }
