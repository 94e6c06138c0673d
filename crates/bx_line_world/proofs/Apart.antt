-- A line that has lost something tells the day, whatever is served before: so the next second that is not late has no link.
use Rattle.std.proofs.Common.{◌≡◌, ℕ, zero, suc, ◌≤◌, arith, Bool, false, true, true≢false, not, ◌&&◌, List, [], ◌∷◌, refl, sym, ap, ◌∙◌, subst, nat_lt, length}
use Rattle.arrayvec.specs.ArrayVec.{ArrayVec}
use Rattle.bx_lapd.specs.declared.indication.Indication.{Indication}
use Rattle.bx_lapd.specs.declared.indication.Indication.TheVariants.{Delivered, LinkError}
use Rattle.bx_live.specs.declared.world.Begin.TheVariants.{Joined}
use Rattle.bx_live.specs.Acts.{Act, Began}
use Rattle.bx_live.specs.Chains.{Chain, chain_first}
use Rattle.bx_line_world.specs.Wires.{WireAct}
use Rattle.bx_q931.specs.Restarts.{restarts_interface}
use Rattle.bx_frames.specs.declared.turn.TheConstants.{MAX_MESSAGES}
use Rattle.bx_line_world.specs.Posts.{is_anew, is_stray, erred, is_lost, post_from, reset, put, told_to, all_told_to, delivered_to}
use Rattle.bx_line_world.specs.Lines.{LineEvent, Elapsed, Serves, step_of}
use Rattle.bx_line_world.specs.Serving.{Slice, Served, AsksLink}
use Rattle.bx_line_world.specs.Seeing.{is_seen, is_to_ask, is_on_the_second, asked_anew, AsksEnd, Looked, Sees}
use Rattle.bx_line_world.specs.Days.{GoesByLine, Begins}
use Rattle.bx_line_world.specs.Laws.{BeginsApart}
use Rattle.bx_line_world.specs.declared.line.Line.{Line}
use Rattle.bx_line_world.specs.declared.line_world.LineWorld.{LineWorld}
use Rattle.bx_line_world.specs.declared.post.Post.{Post}

put_lost : (b : Bool) (p : Post) (m : ArrayVec ℕ) → is_lost p.lost ≡ true → is_lost (put b p m).lost ≡ true
put_lost true p m h = h
put_lost false p m h = refl

reset_lost : (b : Bool) (p : Post) → is_lost p.lost ≡ true → is_lost (reset b p).lost ≡ true
reset_lost true p h = refl
reset_lost false p h = h

delivered_lost : (restarts : Bool) (p : Post) (m : ArrayVec ℕ) → is_lost p.lost ≡ true → is_lost (delivered_to restarts p m).lost ≡ true
delivered_lost restarts p m h =
    let room = nat_lt (length p.messages.items) MAX_MESSAGES in
    reset_lost (restarts && p.here) (put room p m) (put_lost room p m h)

erred_lost : (stray anew : Bool) (p : Post) → is_lost p.lost ≡ true → is_lost (erred stray anew p).lost ≡ true
erred_lost true anew p h = h
erred_lost false anew p h = reset_lost (anew && p.here) p h

told_lost : (p : Post) (told : Indication) → is_lost p.lost ≡ true → is_lost (told_to p told).lost ≡ true
told_lost p (Delivered m) h = delivered_lost (restarts_interface m.items) p m h
told_lost p (LinkError code) h = erred_lost (is_stray code) (is_anew code) p h
told_lost p told h = reset_lost p.here p h

all_told_lost : (p : Post) (told : List Indication) → is_lost p.lost ≡ true → is_lost (all_told_to p told).lost ≡ true
all_told_lost p [] h = h
all_told_lost p (one ∷ more) h = all_told_lost (told_to p one) more (told_lost p one h)

pub lost_before : (moment : ℕ) (p : Post) → p ≡ post_from moment → 1 ≤ moment → is_lost p.lost ≡ true
lost_before zero p is later = absurd (omega (arith, later))
lost_before (suc moment) p is later = ap (λ (q : Post). is_lost q.lost) is

none_here : (up lost : Bool) → lost ≡ true → (up && not lost) ≡ true → ⊥
none_here true true is e = absurd (true≢false (sym e))
none_here false lost is e = absurd (true≢false (sym e))
none_here true false is e = absurd (true≢false (sym is))

module _ {W : Type 0} (did : W → List WireAct → W → Type 0) where
  one_lost : (s t : Line W) (e : LineEvent) → Serves did s e t → is_lost s.post.lost ≡ true → is_lost t.post.lost ≡ true
  one_lost s t e sv h = subst (λ (p : Post). is_lost p.lost ≡ true) (sym sv.post) (all_told_lost s.post (step_of s e).told h)

  asked_lost : (b : Bool) (s t : Line W) → AsksLink did b s t → is_lost s.post.lost ≡ true → is_lost t.post.lost ≡ true
  asked_lost true s t a h = one_lost s t _ a.1 h
  asked_lost false s t same h = subst (λ (x : Line W). is_lost x.post.lost ≡ true) (sym same) h

  sliced_lost : (until : ℕ) (in_turn : Bool) (s t : Line W) (waits : List LineEvent) → Chain (Slice did until in_turn) s waits t → is_lost s.post.lost ≡ true → is_lost t.post.lost ≡ true
  sliced_lost until in_turn s t [] same h = subst (λ (x : Line W). is_lost x.post.lost ≡ true) same h
  sliced_lost until in_turn s t (came ∷ waits) chain h =
      let (mid, one, rest) = chain_first (Slice did until in_turn) s t came waits chain in
      sliced_lost until in_turn mid t waits rest (one_lost one.between mid came one.waited (one_lost s one.between _ one.looked h))

  served_lost : (until : ℕ) (in_turn : Bool) (s t : Line W) → Served did until in_turn s t → is_lost s.post.lost ≡ true → is_lost t.post.lost ≡ true
  served_lost until in_turn s t v h = one_lost v.before t _ v.looked (sliced_lost until in_turn s v.before v.sliced.waits v.sliced.run h)

  ends_asked_lost : (b : Bool) (s t : Line W) → AsksEnd did b s t → is_lost s.post.lost ≡ true → is_lost t.post.lost ≡ true
  ends_asked_lost true s t (shown, between, serves, is) h = subst (λ (x : Line W). is_lost x.post.lost ≡ true) (sym is) (one_lost s between _ serves h)
  ends_asked_lost false s t same h = subst (λ (x : Line W). is_lost x.post.lost ≡ true) (sym same) h

  looked_lost : (until : ℕ) (s t : Line W) (came : List LineEvent) → Chain (Looked did until) s came t → is_lost s.post.lost ≡ true → is_lost t.post.lost ≡ true
  looked_lost until s t [] same h = subst (λ (x : Line W). is_lost x.post.lost ≡ true) same h
  looked_lost until s t (one ∷ came) chain h =
      let (mid, look, rest) = chain_first (Looked did until) s t one came chain in
      looked_lost until mid t came rest (one_lost look.asked mid one look.waited (ends_asked_lost (is_to_ask look.between) look.between look.asked look.asks (one_lost s look.between _ look.timed h)))

  anew_lost : (b : Bool) (s : Line W) → is_lost s.post.lost ≡ true → is_lost (asked_anew b s).post.lost ≡ true
  anew_lost true s h = h
  anew_lost false s h = h

  sees_lost : (until : ℕ) (s t : Line W) → Sees did until s t → is_lost s.post.lost ≡ true → is_lost t.post.lost ≡ true
  sees_lost until s t v h = one_lost v.before t _ v.timed (looked_lost until s v.before v.looked.came v.looked.run h)

  pub not_joined : (instant : ℕ) (s t : Line W) → is_lost s.post.lost ≡ true → Begins did instant Joined s t → ⊥
  not_joined instant s t h b =
      let waited = served_lost instant false b.asked b.waited b.served (asked_lost _ s b.asked b.asks h) in
      none_here (is_seen b.seen) (is_lost b.seen.post.lost) (sees_lost _ _ b.seen b.begun.1 (anew_lost (is_on_the_second instant) b.waited waited)) b.begun.2

module _ {W D : Type 0} (did : W → List WireAct → W → Type 0) (holds may_leave : D → List ℕ → Type 0) (moment : D → ℕ) (left_since : D → ℕ → List ℕ → Type 0) (has_failed : D → Bool) where
  pub starts_apart : (old new : LineWorld W D) (acts : List Act) → Chain (GoesByLine did holds may_leave moment left_since has_failed) old acts new → is_lost old.line.post.lost ≡ true → BeginsApart acts
  starts_apart old new (Began second Joined ∷ acts) chain h =
      let p = chain_first (GoesByLine did holds may_leave moment left_since has_failed) old new (Began second Joined) acts chain in
      not_joined did _ old.line p.0.line h p.1.line
  starts_apart old new acts chain h = tt
