-- A second that begins with a link, and a second of the clock with it, has seen the other end: what stays true while it is looked for.
use Rattle.std.proofs.Common.{◌≡◌, ◌⊎◌, inl, inr, ℕ, ◌+◌, ◌==◌, ◌&&◌, ◌||◌, not, Bool, true, false, true≢false, List, [], ◌∷◌, ◌++◌, length, refl, sym, ap, ◌∙◌, subst, nat_lt, if◌then◌else◌}
use Rattle.std.proofs.lemmas.Bool.{false≢true, and_parts}
use Rattle.arrayvec.specs.ArrayVec.{ArrayVec}
use Rattle.bx_lapd.specs.declared.indication.Indication.{Indication}
use Rattle.bx_lapd.specs.declared.indication.Indication.TheVariants.{Delivered, LinkError, LinkReleased}
use Rattle.bx_lapd.specs.declared.words.LinkState.{LinkState}
use Rattle.bx_lapd.specs.declared.words.LinkState.TheVariants.{Assigned, AwaitingEstablishment, AwaitingRelease, Established, TimerRecovery}
use Rattle.bx_lapd.specs.declared.words.ErrorCode.TheVariants as error
use Rattle.bx_lapd.specs.declared.words.Timer.TheVariants.{T200}
use Rattle.bx_lapd.specs.declared.words.Unnumbered.TheVariants as u
use Rattle.bx_lapd.specs.declared.frame.Frame.TheVariants.{Plain}
use Rattle.bx_lapd.specs.Links.{t200, n200, Link, does, establishing, assigned, discarded, is_established, is_at_rest}
use Rattle.bx_lapd.specs.Table.{is_due, first_count, enquires, expires, elapse, poll}
use Rattle.bx_live.specs.declared.world.Begin.TheVariants.{Joined}
use Rattle.bx_live.specs.Acts.{Act, Began}
use Rattle.bx_live.specs.Chains.{Chain, chain_first}
use Rattle.bx_live.specs.Schedules.{instant_of_second}
use Rattle.bx_line_world.specs.Wires.{WireAct}
use Rattle.bx_q931.specs.Restarts.{restarts_interface}
use Rattle.bx_frames.specs.declared.turn.TheConstants.{MAX_MESSAGES}
use Rattle.bx_line_world.specs.Posts.{not_asked, is_anew, is_stray, erred, put, told_to, all_told_to, begun_by, is_lost, delivered_to, reset}
use Rattle.bx_line_world.specs.Lines.{LineEvent, Asked, Given, Elapsed, Enquired, Heard, Passed, Quiet, Serves, step_of, time_at}
use Rattle.bx_line_world.specs.Serving.{IsWait, is_idle}
use Rattle.bx_line_world.specs.Seeing.{is_seen, is_to_ask, is_on_the_second, asked_anew, AsksEnd, Looked, Sees}
use Rattle.bx_line_world.specs.Days.{GoesByLine, Begins}
use Rattle.bx_line_world.specs.Laws.{has_heard, is_answered, SeesEnd}
use Rattle.bx_line_world.specs.declared.line.Line.{Line}
use Rattle.bx_line_world.specs.declared.line_world.LineWorld.{LineWorld}
use Rattle.bx_line_world.specs.declared.post.Post.{Post}
use Rattle.bx_line_world.proofs.Joining.{Went, went_one, one_events, went_on, on_events, went_asked, went_served, with_post, post_events}

-- ---- lists of events

abbrev has_enquired : List LineEvent → Bool
has_enquired [] = false
has_enquired (Enquired shown ∷ es) = true
has_enquired (e ∷ es) = has_enquired es

or_more : (a b c : Bool) → (b ≡ true → c ≡ true) → (a || b) ≡ true → (a || c) ≡ true
or_more true b c f h = refl
or_more false b c f h = f h

or_both : (a b c d : Bool) → (a ≡ true → c ≡ true) → (b ≡ true → d ≡ true) → (a || b) ≡ true → (c || d) ≡ true
or_both true b c d f g h = ap (λ x. x || d) (f refl)
or_both false b c d f g h = right c (g h)
  where
    right : (x : Bool) → d ≡ true → (x || d) ≡ true
    right true e = refl
    right false e = e

heard_more : (es fs : List LineEvent) → has_heard es ≡ true → has_heard (es ++ fs) ≡ true
heard_more [] fs h = absurd (false≢true h)
heard_more (Heard until octets shown ∷ es) fs h = refl
heard_more (e ∷ es) fs h = heard_more es fs h

heard_after : (es fs : List LineEvent) → has_heard fs ≡ true → has_heard (es ++ fs) ≡ true
heard_after [] fs h = h
heard_after (Heard until octets shown ∷ es) fs h = refl
heard_after (e ∷ es) fs h = heard_after es fs h

answered_more : (es fs : List LineEvent) → is_answered es ≡ true → is_answered (es ++ fs) ≡ true
answered_more [] fs h = absurd (false≢true h)
answered_more (Enquired shown ∷ es) fs h = or_both (has_heard es) (is_answered es) (has_heard (es ++ fs)) (is_answered (es ++ fs)) (heard_more es fs) (answered_more es fs) h
answered_more (e ∷ es) fs h = answered_more es fs h

answered_by : (es fs : List LineEvent) → has_enquired es ≡ true → has_heard fs ≡ true → is_answered (es ++ fs) ≡ true
answered_by [] fs q h = absurd (false≢true q)
answered_by (Enquired shown ∷ es) fs q h = ap (λ x. x || is_answered (es ++ fs)) (heard_after es fs h)
answered_by (e ∷ es) fs q h = answered_by es fs q h

enquired_more : (es fs : List LineEvent) → has_enquired es ≡ true → has_enquired (es ++ fs) ≡ true
enquired_more [] fs q = absurd (false≢true q)
enquired_more (Enquired shown ∷ es) fs q = refl
enquired_more (e ∷ es) fs q = enquired_more es fs q

enquired_at : (es : List LineEvent) (shown : ℕ) → has_enquired (es ++ Enquired shown ∷ []) ≡ true
enquired_at [] shown = refl
enquired_at (Enquired before ∷ es) shown = refl
enquired_at (e ∷ es) shown = enquired_at es shown

-- ---- the link is not clear again before a frame has come

unclear : (l : Link) → is_established l.state ≡ false → is_at_rest l ≡ false
unclear l e = ap (λ b. b && (length l.queue == 0)) e

poll_unclear : (l : Link) (now : ℕ) → is_at_rest l ≡ true → is_at_rest (poll l now).link ≡ false
poll_unclear l now clear = subst (λ (b : Bool). is_at_rest (if b then enquires l 0 now else does l [] []).link ≡ false) (sym clear) refl

expires_unclear : (st : LinkState) (l : Link) (now : ℕ) → l.state ≡ st → is_at_rest l ≡ false → is_at_rest (expires st l now).link ≡ false
expires_unclear Assigned l now is e = e
expires_unclear AwaitingEstablishment l now is e = at (nat_lt l.rc n200)
  where
    at : (b : Bool) → is_at_rest (if b then does (record l { rc = l.rc + 1; timer = T200 (now + t200) }) (Plain u.Sabme true ∷ []) [] else does (discarded (assigned l)) [] (LinkError error.SabmeUnanswered ∷ LinkReleased ∷ [])).link ≡ false
    at true = unclear l (ap is_established is)
    at false = refl
expires_unclear AwaitingRelease l now is e = at (nat_lt l.rc n200)
  where
    at : (b : Bool) → is_at_rest (if b then does (record l { rc = l.rc + 1; timer = T200 (now + t200) }) (Plain u.Disc true ∷ []) [] else does (assigned l) [] (LinkError error.DiscUnanswered ∷ LinkReleased ∷ [])).link ≡ false
    at true = unclear l (ap is_established is)
    at false = refl
expires_unclear Established l now is e = refl
expires_unclear TimerRecovery l now is e = at (nat_lt l.rc n200)
  where
    at : (b : Bool) → is_at_rest (if b then enquires l (l.rc + 1) now else does (establishing l false now) (Plain u.Sabme true ∷ []) (LinkError error.EnquiryUnanswered ∷ [])).link ≡ false
    at true = refl
    at false = refl

elapse_unclear : (l : Link) (now : ℕ) → is_at_rest l ≡ false → is_at_rest (elapse l now).link ≡ false
elapse_unclear l now e = at (is_due l.timer now)
  where
    at : (b : Bool) → is_at_rest (if b then expires l.state l now else does l [] []).link ≡ false
    at true = expires_unclear l.state l now refl e
    at false = e

-- ---- nobody is taken for asked by what the link tells

put_asked : (b : Bool) (p : Post) (m : ArrayVec ℕ) → (put b p m).asked ≡ true → p.asked ≡ true
put_asked true p m h = h
put_asked false p m h = h

delivered_asked : (restarts : Bool) (p : Post) (m : ArrayVec ℕ) → (delivered_to restarts p m).asked ≡ true → p.asked ≡ true
delivered_asked restarts p m h = at (restarts && p.here) (nat_lt (length p.messages.items) MAX_MESSAGES) h
  where
    at : (b room : Bool) → (reset b (put room p m)).asked ≡ true → p.asked ≡ true
    at true room h = put_asked room p m h
    at false room h = put_asked room p m h

erred_asked : (stray anew : Bool) (p : Post) → (erred stray anew p).asked ≡ true → p.asked ≡ true
erred_asked true anew p h = h
erred_asked false anew p h = absurd (false≢true h)

told_asked : (p : Post) (told : Indication) → (told_to p told).asked ≡ true → p.asked ≡ true
told_asked p (Delivered m) h = delivered_asked (restarts_interface m.items) p m h
told_asked p (LinkError code) h = erred_asked (is_stray code) (is_anew code) p h
told_asked p told h = absurd (false≢true h)

all_told_asked : (p : Post) (told : List Indication) → (all_told_to p told).asked ≡ true → p.asked ≡ true
all_told_asked p [] h = h
all_told_asked p (one ∷ more) h = told_asked p one (all_told_asked (told_to p one) more h)

module _ {W : Type 0} (did : W → List WireAct → W → Type 0) (nothing : (w : W) → did w [] w) (more : (u v w : W) (xs ys : List WireAct) → did u xs v → did v ys w → did u (xs ++ ys) w) where
  -- who was asked has answered, or the link waits for that
  abbrev Waits : Line W → List LineEvent → Type 0
  Waits s es = s.post.asked ≡ true → (is_answered es ≡ true) ⊎ ((has_enquired es ≡ true) × (is_at_rest s.end.link ≡ false))

  record Seeing (s t : Line W) : Type 0 where
    went : Went did s t [] []
    waits : Waits t went.events

  by_time : (s t : Line W) (es : List LineEvent) (shown : ℕ) → Serves did s (Elapsed shown) t → Waits s es → Waits t (es ++ Elapsed shown ∷ [])
  by_time s t es shown sv w asked = at (w (all_told_asked s.post (step_of s (Elapsed shown)).told (subst (λ (p : Post). p.asked ≡ true) sv.post asked)))
    where
      at : (is_answered es ≡ true) ⊎ ((has_enquired es ≡ true) × (is_at_rest s.end.link ≡ false)) → (is_answered (es ++ Elapsed shown ∷ []) ≡ true) ⊎ ((has_enquired (es ++ Elapsed shown ∷ []) ≡ true) × (is_at_rest t.end.link ≡ false))
      at (inl a) = inl (answered_more es (Elapsed shown ∷ []) a)
      at (inr (q, c)) = inr (enquired_more es (Elapsed shown ∷ []) q, subst (λ (l : Link). is_at_rest l ≡ false) (sym sv.link) (elapse_unclear s.end.link (time_at s shown) c))

  one_more : (s0 s t : Line W) (x : Went did s0 s [] []) (e : LineEvent) (sv : Serves did s e t) → (went_on more x (went_one e sv)).events ≡ x.events ++ e ∷ []
  one_more s0 s t x e sv = on_events more x (went_one e sv) ∙ ap (λ es. x.events ++ es) (one_events e sv)

  timed : (s0 s t : Line W) (shown : ℕ) → Serves did s (Elapsed shown) t → Seeing s0 s → Seeing s0 t
  timed s0 s t shown sv x = record { went = went_on more x.went (went_one (Elapsed shown) sv); waits = subst (Waits t) (sym (one_more s0 s t x.went (Elapsed shown) sv)) (by_time s t x.went.events shown sv x.waits) }

  -- nothing came, or what is passed over
  still : (s t : Line W) (es fs : List LineEvent) → t.end.link ≡ s.end.link → t.post ≡ s.post → Waits s es → Waits t (es ++ fs)
  still s t es fs link post w asked = at (w (subst (λ (p : Post). p.asked ≡ true) post asked))
    where
      at : (is_answered es ≡ true) ⊎ ((has_enquired es ≡ true) × (is_at_rest s.end.link ≡ false)) → (is_answered (es ++ fs) ≡ true) ⊎ ((has_enquired (es ++ fs) ≡ true) × (is_at_rest t.end.link ≡ false))
      at (inl a) = inl (answered_more es fs a)
      at (inr (q, c)) = inr (enquired_more es fs q, subst (λ (l : Link). is_at_rest l ≡ false) (sym link) c)

  by_frame : (s t : Line W) (es : List LineEvent) (until : ℕ) (octets : List ℕ) (shown : ℕ) → Serves did s (Heard until octets shown) t → Waits s es → Waits t (es ++ Heard until octets shown ∷ [])
  by_frame s t es until octets shown sv w asked = at (w (all_told_asked s.post (step_of s (Heard until octets shown)).told (subst (λ (p : Post). p.asked ≡ true) sv.post asked)))
    where
      heard : List LineEvent
      heard = Heard until octets shown ∷ []

      at : (is_answered es ≡ true) ⊎ ((has_enquired es ≡ true) × (is_at_rest s.end.link ≡ false)) → (is_answered (es ++ heard) ≡ true) ⊎ ((has_enquired (es ++ heard) ≡ true) × (is_at_rest t.end.link ≡ false))
      at (inl a) = inl (answered_more es heard a)
      at (inr (q, c)) = inl (answered_by es heard q refl)

  waited : (s0 s t : Line W) (until : ℕ) (came : LineEvent) → IsWait until came → Serves did s came t → Seeing s0 s → Seeing s0 t
  waited s0 s t until (Heard end octets shown) is sv x = record { went = went_on more x.went (went_one (Heard end octets shown) sv); waits = subst (Waits t) (sym (one_more s0 s t x.went (Heard end octets shown) sv)) (by_frame s t x.went.events end octets shown sv x.waits) }
  waited s0 s t until (Passed end octets) is sv x = record { went = went_on more x.went (went_one (Passed end octets) sv); waits = subst (Waits t) (sym (one_more s0 s t x.went (Passed end octets) sv)) (still s t x.went.events (Passed end octets ∷ []) sv.link sv.post x.waits) }
  waited s0 s t until (Quiet end) is sv x = record { went = went_on more x.went (went_one (Quiet end) sv); waits = subst (Waits t) (sym (one_more s0 s t x.went (Quiet end) sv)) (still s t x.went.events (Quiet end ∷ []) sv.link sv.post x.waits) }
  waited s0 s t until came is sv x = absurd is

  asks : (s0 s t : Line W) (b : Bool) → is_to_ask s ≡ b → AsksEnd did b s t → Seeing s0 s → Seeing s0 t
  asks s0 s t true is (shown, between, sv, same) x =
      subst (λ (y : Line W). Seeing s0 y) (sym same) (record {
        went = with_post (record between.post { asked = true }) refl (went_on more x.went (went_one (Enquired shown) sv));
        waits = λ asked. inr (subst (λ es. has_enquired es ≡ true) (sym (post_events (record between.post { asked = true }) refl (went_on more x.went (went_one (Enquired shown) sv)) ∙ one_more s0 s between x.went (Enquired shown) sv)) (enquired_at x.went.events shown), subst (λ (l : Link). is_at_rest l ≡ false) (sym sv.link) (poll_unclear s.end.link (time_at s shown) (and_parts (not s.post.asked) (is_at_rest s.end.link) is).1));
      })
  asks s0 s t false is same x = subst (λ (y : Line W). Seeing s0 y) (sym same) x

  looked : (until : ℕ) (s0 s t : Line W) (came : List LineEvent) → Chain (Looked did until) s came t → Seeing s0 s → Seeing s0 t
  looked until s0 s t [] same x = subst (λ (y : Line W). Seeing s0 y) same x
  looked until s0 s t (one ∷ came) chain x =
      let (mid, look, rest) = chain_first (Looked did until) s t one came chain in
      looked until s0 mid t came rest (waited s0 look.asked mid until one look.is_wait look.waited (asks s0 look.between look.asked (is_to_ask look.between) refl look.asks (timed s0 s look.between look.shown look.timed x)))

  sees : (until : ℕ) (s0 s t : Line W) → Sees did until s t → Seeing s0 s → Seeing s0 t
  sees until s0 s t v x = timed s0 v.before t v.shown v.timed (looked until s0 s v.before v.looked.came v.looked.run x)

  here_parts : (seen lost : Bool) → (seen && not lost) ≡ true → seen ≡ true
  here_parts true lost h = refl
  here_parts false lost h = absurd (false≢true h)

  answered : (t : Line W) (es : List LineEvent) → is_seen t ≡ true → Waits t es → (is_answered es ≡ true) × (is_at_rest t.end.link ≡ true)
  answered t es seen w = (at (w parts.0), parts.1)
    where
      parts : (t.post.asked ≡ true) × (is_at_rest t.end.link ≡ true)
      parts = and_parts t.post.asked (is_at_rest t.end.link) seen

      at : (is_answered es ≡ true) ⊎ ((has_enquired es ≡ true) × (is_at_rest t.end.link ≡ false)) → is_answered es ≡ true
      at (inl a) = a
      at (inr (q, c)) = absurd (true≢false (sym parts.1 ∙ c))

  pub begun_seen : (instant : ℕ) (s t : Line W) → is_on_the_second instant ≡ true → Begins did instant Joined s t → SeesEnd did s t
  begun_seen instant s t on b =
      let before = went_on more (went_asked more (is_idle s.end.link) s b.asked nothing b.asks) (went_served more instant false b.asked b.waited nothing b.served) in
      let fresh : Seeing s (asked_anew true b.waited) = record { went = with_post (not_asked b.waited.post) refl before; waits = λ asked. absurd (false≢true asked) } in
      let start = subst (λ (x : Bool). Seeing s (asked_anew x b.waited)) (sym on) fresh in
      let seen = sees _ s (asked_anew (is_on_the_second instant) b.waited) b.seen b.begun.1 start in
      let ends = answered b.seen seen.went.events (here_parts (is_seen b.seen) (is_lost b.seen.post.lost) b.begun.2) seen.waits in
      subst (λ (x : Line W). SeesEnd did s x) (sym b.line) (record { events = seen.went.events; wire = seen.went.wire; link = seen.went.link; answered = ends.0; clear = ends.1 })

module _ {W D : Type 0} (did : W → List WireAct → W → Type 0) (holds may_leave : D → List ℕ → Type 0) (moment : D → ℕ) (left_since : D → ℕ → List ℕ → Type 0) (has_failed : D → Bool) (nothing : (w : W) → did w [] w)
    (more : (u v w : W) (xs ys : List WireAct) → did u xs v → did v ys w → did u (xs ++ ys) w) where
  pub seen_alive : (old new : LineWorld W D) (second : ℕ) → GoesByLine did holds may_leave moment left_since has_failed old (Began second Joined) new
      → is_on_the_second (instant_of_second old.schedule second) ≡ true → SeesEnd did old.line new.line
  seen_alive old new second goes on = begun_seen did nothing more (instant_of_second old.schedule second) old.line new.line on goes.line
