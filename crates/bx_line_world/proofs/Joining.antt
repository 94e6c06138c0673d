-- The acts of a day joined into one list of events of its link.
use Rattle.std.proofs.Common.{◌≡◌, inl, inr, ℕ, zero, suc, Bool, true, false, ◌&&◌, List, [], ◌∷◌, ◌++◌, refl, sym, ap, ◌∙◌, subst, Option, Some, None, Result, Ok, Err, nat_lt, length}
use Rattle.std.proofs.lemmas.List.{append-nil, append_assoc}
use Rattle.arrayvec.specs.ArrayVec.{ArrayVec}
use Rattle.bx_frames.specs.declared.fault.LinkFault.{LinkFault}
use Rattle.bx_frames.specs.declared.frame.Frame.{Frame}
use Rattle.bx_frames.specs.declared.frame.Frame.TheVariants as frames
use Rattle.bx_lapd.specs.Links.{LinkStep}
use Rattle.bx_lapd.specs.Once.{IsPartOf}
use Rattle.bx_lapd.specs.World.{messages_of}
use Rattle.bx_lapd.specs.declared.indication.Indication.{Indication}
use Rattle.bx_lapd.specs.declared.indication.Indication.TheVariants.{Delivered, LinkError}
use Rattle.bx_live.specs.Acts.{Act, Began, Dropped, Logged, Synced, Wrote, Read, Took, EndedDay}
use Rattle.bx_live.specs.declared.world.Begin.{Begin}
use Rattle.bx_live.specs.declared.world.Begin.TheVariants.{Late, Alone, Joined, Ended}
use Rattle.bx_live.specs.declared.world.Loss.{Loss}
use Rattle.bx_live.specs.declared.world.Loss.TheVariants as losses
use Rattle.bx_live.specs.Chains.{Chain, chain_first}
use Rattle.bx_live.specs.Schedules.{instant_of_second}
use Rattle.bx_line_world.specs.Wires.{WireAct}
use Rattle.bx_q931.specs.Restarts.{restarts_interface}
use Rattle.bx_frames.specs.declared.turn.TheConstants.{MAX_MESSAGES}
use Rattle.bx_line_world.specs.Posts.{with_messages, not_asked, is_anew, is_stray, erred, reset, put, told_to, all_told_to, begun_by, dropped_by, delivered_to}
use Rattle.bx_line_world.specs.Lines.{LineEvent, Asked, Given, Elapsed, Enquired, Quiet, Serves, wire_acts_of, step_of, passed_after, shown_by}
use Rattle.bx_line_world.specs.Serving.{IsWait, Slice, Served, Polls, AsksLink, GivesMessage, is_idle}
use Rattle.bx_line_world.specs.Seeing.{is_to_ask, is_on_the_second, asked_anew, AsksEnd, Looked, Sees}
use Rattle.bx_line_world.specs.Days.{GoesByLine, IsTextOfMessages, IsSecondBegun, LooksOut, ReadsTurn, ReadsFor, TakesMessage}
use Rattle.bx_line_world.specs.Joined.{LinkEnd, end_of, line_at, after_event, after_events, wire_acts, delivered, given_in, read_in, AreWritten, GoesOverLink}
use Rattle.bx_line_world.specs.declared.line.Line.{Line}
use Rattle.bx_line_world.specs.declared.line_world.LineWorld.{LineWorld}
use Rattle.bx_line_world.specs.declared.post.Post.{Post}

-- ---- parts of lists

part_refl : (xs : List (ArrayVec ℕ)) → IsPartOf xs xs
part_refl [] = tt
part_refl (x ∷ xs) = inl (refl, part_refl xs)

part_skip : (xs : List (ArrayVec ℕ)) (y : ArrayVec ℕ) (ys : List (ArrayVec ℕ)) → IsPartOf xs ys → IsPartOf xs (y ∷ ys)
part_skip [] y ys p = tt
part_skip (x ∷ xs) y ys p = inr p

pub part_trans : (xs ys zs : List (ArrayVec ℕ)) → IsPartOf xs ys → IsPartOf ys zs → IsPartOf xs zs
part_trans [] ys zs p q = tt
part_trans (x ∷ xs) [] zs p q = absurd p
part_trans (x ∷ xs) (y ∷ ys) [] p q = absurd q
part_trans (x ∷ xs) (y ∷ ys) (z ∷ zs) (inl (e, p)) (inl (f, q)) = inl (e ∙ f, part_trans xs ys zs p q)
part_trans (x ∷ xs) (y ∷ ys) (z ∷ zs) (inr p) (inl (f, q)) = inr (part_trans (x ∷ xs) ys zs p q)
part_trans (x ∷ xs) (y ∷ ys) (z ∷ zs) (inl p) (inr q) = inr (part_trans (x ∷ xs) (y ∷ ys) zs (inl p) q)
part_trans (x ∷ xs) (y ∷ ys) (z ∷ zs) (inr p) (inr q) = inr (part_trans (x ∷ xs) (y ∷ ys) zs (inr p) q)

pub part_prefix : (zs xs ys : List (ArrayVec ℕ)) → IsPartOf xs ys → IsPartOf (zs ++ xs) (zs ++ ys)
part_prefix [] xs ys p = p
part_prefix (z ∷ zs) xs ys p = inl (refl, part_prefix zs xs ys p)

pub part_after : (xs ys zs : List (ArrayVec ℕ)) → IsPartOf xs ys → IsPartOf (xs ++ zs) (ys ++ zs)
part_after [] [] zs p = part_refl zs
part_after [] (y ∷ ys) zs p = part_skip zs y (ys ++ zs) (part_after [] ys zs tt)
part_after (x ∷ xs) [] zs p = absurd p
part_after (x ∷ xs) (y ∷ ys) zs (inl (e, p)) = inl (e, part_after xs ys zs p)
part_after (x ∷ xs) (y ∷ ys) zs (inr p) = inr (part_after (x ∷ xs) ys zs p)

pub part_both : (xs ys zs ws : List (ArrayVec ℕ)) → IsPartOf xs ys → IsPartOf zs ws → IsPartOf (xs ++ zs) (ys ++ ws)
part_both xs ys zs ws p q = part_trans (xs ++ zs) (ys ++ zs) (ys ++ ws) (part_after xs ys zs p) (part_prefix ys zs ws q)

part_more : (xs ys : List (ArrayVec ℕ)) → IsPartOf xs (xs ++ ys)
part_more [] ys = tt
part_more (x ∷ xs) ys = inl (refl, part_more xs ys)

-- ---- what waits after what was told

reset_part : (b : Bool) (p : Post) (ys : List (ArrayVec ℕ)) → IsPartOf (reset b p).messages.items (p.messages.items ++ ys)
reset_part true p ys = part_more p.messages.items ys
reset_part false p ys = part_more p.messages.items ys

put_part : (b : Bool) (p : Post) (m : ArrayVec ℕ) → IsPartOf (put b p m).messages.items (p.messages.items ++ m ∷ [])
put_part true p m = part_refl (p.messages.items ++ m ∷ [])
put_part false p m = part_more p.messages.items (m ∷ [])

erred_part : (stray anew : Bool) (p : Post) → IsPartOf (erred stray anew p).messages.items (p.messages.items ++ [])
erred_part true anew p = part_more p.messages.items []
erred_part false anew p = reset_part (anew && p.here) p []

delivered_part : (restarts : Bool) (p : Post) (m : ArrayVec ℕ) → IsPartOf (delivered_to restarts p m).messages.items (p.messages.items ++ m ∷ [])
delivered_part restarts p m = at (restarts && p.here) (nat_lt (length p.messages.items) MAX_MESSAGES)
  where
    at : (b room : Bool) → IsPartOf (reset b (put room p m)).messages.items (p.messages.items ++ m ∷ [])
    at true room = put_part room p m
    at false room = put_part room p m

told_one : (p : Post) (told : Indication) → IsPartOf (told_to p told).messages.items (p.messages.items ++ messages_of (told ∷ []))
told_one p (Delivered m) = delivered_part (restarts_interface m.items) p m
told_one p (LinkError code) = erred_part (is_stray code) (is_anew code) p
told_one p told = reset_part p.here p _

messages_more : (told : Indication) (more : List Indication) → messages_of (told ∷ more) ≡ messages_of (told ∷ []) ++ messages_of more
messages_more (LinkError code) more = refl
messages_more told more = refl

told_part : (p : Post) (told : List Indication) → IsPartOf (all_told_to p told).messages.items (p.messages.items ++ messages_of told)
told_part p [] = part_more p.messages.items []
told_part p (one ∷ more) =
    let here = p.messages.items in
    let first = messages_of (one ∷ []) in
    let all : (here ++ first) ++ messages_of more ≡ here ++ messages_of (one ∷ more) = append_assoc here first (messages_of more) ∙ ap (λ ms. here ++ ms) (sym (messages_more one more)) in
    subst (λ ms. IsPartOf (all_told_to (told_to p one) more).messages.items ms) all
    (part_trans _ _ _ (told_part (told_to p one) more) (part_after (told_to p one).messages.items (here ++ first) (messages_of more) (told_one p one)))

-- ---- lists of events, one after the other

after_on : (u : LinkEnd) (xs ys : List LineEvent) → after_events u (xs ++ ys) ≡ after_events (after_events u xs) ys
after_on u [] ys = refl
after_on u (x ∷ xs) ys = after_on (after_event u x) xs ys

acts_on : (u : LinkEnd) (xs ys : List LineEvent) → wire_acts u (xs ++ ys) ≡ wire_acts u xs ++ wire_acts (after_events u xs) ys
acts_on u [] ys = refl
acts_on u (x ∷ xs) ys = ap (λ zs. wire_acts_of (line_at u) x ++ zs) (acts_on (after_event u x) xs ys) ∙ sym (append_assoc (wire_acts_of (line_at u) x) (wire_acts (after_event u x) xs) (wire_acts (after_events (after_event u x) xs) ys))

delivered_on : (u : LinkEnd) (xs ys : List LineEvent) → delivered u (xs ++ ys) ≡ delivered u xs ++ delivered (after_events u xs) ys
delivered_on u [] ys = refl
delivered_on u (x ∷ xs) ys =
    let here = messages_of (step_of (line_at u) x).told in
    ap (λ zs. here ++ zs) (delivered_on (after_event u x) xs ys) ∙ sym (append_assoc here (delivered (after_event u x) xs) (delivered (after_events (after_event u x) xs) ys))

pub given_on : (xs ys : List LineEvent) → given_in (xs ++ ys) ≡ given_in xs ++ given_in ys
given_on [] ys = refl
given_on (Given m shown ∷ xs) ys = ap (λ zs. m ∷ zs) (given_on xs ys)
given_on (x ∷ xs) ys = given_on xs ys

-- ---- what a line has gone through

pub record Went {W : Type 0} (did : W → List WireAct → W → Type 0) (s t : Line W) (given read : List (ArrayVec ℕ)) : Type 0 where
  pub events : List LineEvent
  pub wire : did s.wire (wire_acts (end_of s) events) t.wire
  pub link : end_of t ≡ after_events (end_of s) events
  pub gave : given_in events ≡ given
  pub came : IsPartOf (read ++ t.post.messages.items) (s.post.messages.items ++ delivered (end_of s) events)

same_acts : {W : Type 0} (s : Line W) (e : LineEvent) → wire_acts_of s e ≡ wire_acts_of (line_at (end_of s)) e
same_acts s (Quiet until) = refl
same_acts s e = refl

same_step : {W : Type 0} (s : Line W) (e : LineEvent) → step_of s e ≡ step_of (line_at (end_of s)) e
same_step s (Quiet until) = refl
same_step s e = refl

same_passed : {W : Type 0} (s : Line W) (e : LineEvent) → passed_after s e ≡ passed_after (line_at (end_of s)) e
same_passed s (Quiet until) = refl
same_passed s e = refl

module _ {W : Type 0} {did : W → List WireAct → W → Type 0} where
  end_by : (s t : Line W) (e : LineEvent) → Serves did s e t → end_of t ≡ after_event (end_of s) e
  end_by s t e sv =
      ap (λ n. record { network = n; link = t.end.link; shown = t.shown; passed = t.passed }) sv.network
      ∙ (ap (λ l. record { network = s.end.network; link = l; shown = t.shown; passed = t.passed }) (sv.link ∙ ap (λ (x : LinkStep). x.link) (same_step s e))
      ∙ (ap (λ n. record { network = s.end.network; link = (step_of (line_at (end_of s)) e).link; shown = n; passed = t.passed }) sv.shown
      ∙ ap (λ n. record { network = s.end.network; link = (step_of (line_at (end_of s)) e).link; shown = shown_by s.shown e; passed = n }) (sv.passed ∙ same_passed s e)))

  pub went_one : {s t : Line W} (e : LineEvent) → Serves did s e t → Went did s t (given_in (e ∷ [])) []
  went_one {s} {t} e sv =
      let told = (step_of (line_at (end_of s)) e).told in
      let post : t.post ≡ all_told_to s.post told = sv.post ∙ ap (λ (x : LinkStep). all_told_to s.post x.told) (same_step s e) in
      record {
        events = e ∷ [];
        wire = subst (λ xs. did s.wire xs t.wire) (same_acts s e ∙ sym (append-nil (wire_acts_of (line_at (end_of s)) e))) sv.wire;
        link = end_by s t e sv;
        gave = refl;
        came = subst (λ (p : Post). IsPartOf p.messages.items (s.post.messages.items ++ (messages_of told ++ []))) (sym post)
            (subst (λ ms. IsPartOf (all_told_to s.post told).messages.items (s.post.messages.items ++ ms)) (sym (append-nil (messages_of told))) (told_part s.post told));
      }

  pub one_events : {s t : Line W} (e : LineEvent) (sv : Serves did s e t) → (went_one e sv).events ≡ e ∷ []
  unfolding went_one
  one_events e sv = refl

  pub went_none : ((w : W) → did w [] w) → (s : Line W) → Went did s s [] []
  went_none nothing s = record { events = []; wire = nothing s.wire; link = refl; gave = refl; came = part_more s.post.messages.items [] }

  -- what waits changed, and no message did
  pub with_post : {s t : Line W} {given read : List (ArrayVec ℕ)} (p : Post) → p.messages.items ≡ t.post.messages.items → Went did s t given read → Went did s (record t { post = p }) given read
  with_post {s} {t} {given} {read} p same w = record {
    events = w.events;
    wire = w.wire;
    link = w.link;
    gave = w.gave;
    came = subst (λ ms. IsPartOf (read ++ ms) (s.post.messages.items ++ delivered (end_of s) w.events)) (sym same) w.came;
  }

  pub post_events : {s t : Line W} {given read : List (ArrayVec ℕ)} (p : Post) (same : p.messages.items ≡ t.post.messages.items) (w : Went did s t given read) → (with_post p same w).events ≡ w.events
  unfolding with_post
  post_events p same w = refl

  -- the first message that waits was read
  pub took_first : {s t : Line W} {given : List (ArrayVec ℕ)} (m : ArrayVec ℕ) (rest : List (ArrayVec ℕ)) → t.post.messages.items ≡ m ∷ rest → Went did s t given [] → Went did s (record t { post = with_messages t.post rest }) given (m ∷ [])
  took_first {s} m rest are w = record {
    events = w.events;
    wire = w.wire;
    link = w.link;
    gave = w.gave;
    came = subst (λ ms. IsPartOf ms (s.post.messages.items ++ delivered (end_of s) w.events)) are w.came;
  }

  module _ (more : (u v w : W) (xs ys : List WireAct) → did u xs v → did v ys w → did u (xs ++ ys) w) where
    pub went_on : {s t u : Line W} {g h r q : List (ArrayVec ℕ)} → Went did s t g r → Went did t u h q → Went did s u (g ++ h) (r ++ q)
    went_on {s} {t} {u} {g} {h} {r} {q} a b =
        let first = end_of s in
        let mid = after_events first a.events in
        let here = s.post.messages.items in
        let one = delivered first a.events in
        let two = delivered mid b.events in
        let b_wire : did t.wire (wire_acts mid b.events) u.wire = subst (λ (x : LinkEnd). did t.wire (wire_acts x b.events) u.wire) a.link b.wire in
        let b_came : IsPartOf (q ++ u.post.messages.items) (t.post.messages.items ++ two) = subst (λ (x : LinkEnd). IsPartOf (q ++ u.post.messages.items) (t.post.messages.items ++ delivered x b.events)) a.link b.came in
        let joined : IsPartOf (r ++ (q ++ u.post.messages.items)) ((here ++ one) ++ two) =
        part_trans _ _ _ (part_prefix r (q ++ u.post.messages.items) (t.post.messages.items ++ two) b_came)
        (subst (λ ms. IsPartOf ms ((here ++ one) ++ two)) (append_assoc r t.post.messages.items two) (part_after (r ++ t.post.messages.items) (here ++ one) two a.came)) in
        record {
          events = a.events ++ b.events;
          wire = subst (λ xs. did s.wire xs u.wire) (sym (acts_on first a.events b.events)) (more s.wire t.wire u.wire (wire_acts first a.events) (wire_acts mid b.events) a.wire b_wire);
          link = b.link ∙ (ap (λ (x : LinkEnd). after_events x b.events) a.link ∙ sym (after_on first a.events b.events));
          gave = given_on a.events b.events ∙ (ap (λ ms. ms ++ given_in b.events) a.gave ∙ ap (λ ms. g ++ ms) b.gave);
          came = subst (λ ms. IsPartOf ms (here ++ delivered first (a.events ++ b.events))) (sym (append_assoc r q u.post.messages.items))
              (subst (λ ms. IsPartOf (r ++ (q ++ u.post.messages.items)) ms) (append_assoc here one two ∙ ap (λ ms. here ++ ms) (sym (delivered_on first a.events b.events))) joined);
        }

    pub on_events : {s t u : Line W} {g h r q : List (ArrayVec ℕ)} (a : Went did s t g r) (b : Went did t u h q) → (went_on a b).events ≡ a.events ++ b.events
    unfolding went_on
    on_events a b = refl

    -- ---- waits

    wait_gives : (until : ℕ) (came : LineEvent) → IsWait until came → given_in (came ∷ []) ≡ []
    wait_gives until (Asked shown) w = absurd w
    wait_gives until (Given m shown) w = absurd w
    wait_gives until (Elapsed shown) w = absurd w
    wait_gives until came w = refl

    went_waited : {s t : Line W} (until : ℕ) (came : LineEvent) → IsWait until came → Serves did s came t → Went did s t [] []
    went_waited {s} {t} until came w sv = subst (λ ms. Went did s t ms []) (wait_gives until came w) (went_one came sv)

    went_sliced : (until : ℕ) (in_turn : Bool) (s t : Line W) (waits : List LineEvent) → ((w : W) → did w [] w) → Chain (Slice did until in_turn) s waits t → Went did s t [] []
    went_sliced until in_turn s t [] nothing e = subst (λ (x : Line W). Went did s x [] []) e (went_none nothing s)
    went_sliced until in_turn s t (came ∷ waits) nothing chain =
        let (mid, one, rest) = chain_first (Slice did until in_turn) s t came waits chain in
        went_on (went_on (went_one (Elapsed one.shown) one.looked) (went_waited until came one.is_wait one.waited)) (went_sliced until in_turn mid t waits nothing rest)

    pub went_served : (until : ℕ) (in_turn : Bool) (s t : Line W) → ((w : W) → did w [] w) → Served did until in_turn s t → Went did s t [] []
    went_served until in_turn s t nothing v = went_on (went_sliced until in_turn s v.before v.sliced.waits nothing v.sliced.run) (went_one (Elapsed v.shown) v.looked)

    went_polled : (s t : Line W) (came : List LineEvent) → ((w : W) → did w [] w) → Chain (Polls did) s came t → Went did s t [] []
    went_polled s t [] nothing e = subst (λ (x : Line W). Went did s x [] []) e (went_none nothing s)
    went_polled s t (one ∷ came) nothing chain =
        let (mid, step, rest) = chain_first (Polls did) s t one came chain in
        went_on (went_waited 0 one step.is_wait step.waited) (went_polled mid t came nothing rest)

    went_given : (s t : Line W) (ms : List (ArrayVec ℕ)) → ((w : W) → did w [] w) → Chain (GivesMessage did) s ms t → Went did s t ms []
    went_given s t [] nothing e = subst (λ (x : Line W). Went did s x [] []) e (went_none nothing s)
    went_given s t (m ∷ ms) nothing chain =
        let (mid, step, rest) = chain_first (GivesMessage did) s t m ms chain in
        went_on (went_one (Given m step.0) step.1) (went_given mid t ms nothing rest)

    pub went_asked : (b : Bool) (s t : Line W) → ((w : W) → did w [] w) → AsksLink did b s t → Went did s t [] []
    went_asked true s t nothing a = went_one (Asked a.0) a.1
    went_asked false s t nothing same = subst (λ (x : Line W). Went did s x [] []) (sym same) (went_none nothing s)

    -- ---- looks at the other end

    went_ends_asked : (b : Bool) (s t : Line W) → ((w : W) → did w [] w) → AsksEnd did b s t → Went did s t [] []
    went_ends_asked true s t nothing (shown, between, serves, is) =
        subst (λ (x : Line W). Went did s x [] []) (sym is) (with_post (record between.post { asked = true }) refl (went_one (Enquired shown) serves))
    went_ends_asked false s t nothing same = subst (λ (x : Line W). Went did s x [] []) (sym same) (went_none nothing s)

    went_looked : (until : ℕ) (s t : Line W) (came : List LineEvent) → ((w : W) → did w [] w) → Chain (Looked did until) s came t → Went did s t [] []
    went_looked until s t [] nothing e = subst (λ (x : Line W). Went did s x [] []) e (went_none nothing s)
    went_looked until s t (came ∷ more_came) nothing chain =
        let (mid, one, rest) = chain_first (Looked did until) s t came more_came chain in
        went_on (went_on (went_one (Elapsed one.shown) one.timed) (went_on (went_ends_asked (is_to_ask one.between) one.between one.asked nothing one.asks) (went_waited until came one.is_wait one.waited))) (went_looked until mid t more_came nothing rest)

    went_anew : (b : Bool) (s : Line W) → ((w : W) → did w [] w) → Went did s (asked_anew b s) [] []
    went_anew true s nothing = with_post (not_asked s.post) refl (went_none nothing s)
    went_anew false s nothing = went_none nothing s

    went_out : (instant : ℕ) (s t : Line W) → ((w : W) → did w [] w) → LooksOut did instant s t → Went did s t [] []
    went_out instant s t nothing v =
        went_on (went_anew (is_on_the_second instant) s nothing) (went_on (went_looked _ (asked_anew (is_on_the_second instant) s) v.before v.looked.came nothing v.looked.run) (went_one (Elapsed v.shown) v.timed))

    went_seen : (instant : ℕ) (begin : Begin) (s t : Line W) → ((w : W) → did w [] w) → IsSecondBegun did begin instant s t → Went did s t [] []
    went_seen instant Late s t nothing (late, same) = subst (λ (x : Line W). Went did s x [] []) (sym same) (went_none nothing s)
    went_seen instant Alone s t nothing b = went_out instant s t nothing b.1
    went_seen instant Joined s t nothing b = went_out instant s t nothing b.1
    went_seen instant Ended s t nothing b = absurd b

    begun_same : (p : Post) (begin : Begin) → (begun_by p begin).messages.items ≡ p.messages.items
    begun_same p Ended = refl
    begun_same p begin = refl

    dropped_same : (p : Post) (loss : Loss) → (dropped_by p loss).messages.items ≡ p.messages.items
    dropped_same p losses.Late = refl
    dropped_same p (losses.Fault fault) = refl

-- ---- acts

module _ {W D : Type 0} (did : W → List WireAct → W → Type 0) (holds may_leave : D → List ℕ → Type 0) (moment : D → ℕ) (left_since : D → ℕ → List ℕ → Type 0) (has_failed : D → Bool) (nothing : (w : W) → did w [] w)
    (more : (u v w : W) (xs ys : List WireAct) → did u xs v → did v ys w → did u (xs ++ ys) w) where
  abbrev Goes : LineWorld W D → Act → LineWorld W D → Type 0
  Goes = GoesByLine did holds may_leave moment left_since has_failed

  -- what an act gives and reads
  record WentBy (s t : LineWorld W D) (acts : List Act) : Type 0 where
    gives : List (ArrayVec ℕ)
    written : AreWritten acts gives
    went : Went did s.line t.line gives (read_in acts)

  quiet : (s t : LineWorld W D) (act : Act) → AreWritten (act ∷ []) [] → read_in (act ∷ []) ≡ [] → Went did s.line t.line [] [] → WentBy s t (act ∷ [])
  quiet s t act none reads w = record { gives = []; written = none; went = subst (λ ms. Went did s.line t.line [] ms) (sym reads) w }

  unmoved : (s t : LineWorld W D) → t.line ≡ s.line → Went did s.line t.line [] []
  unmoved s t same = subst (λ (x : Line W). Went did s.line x [] []) (sym same) (went_none nothing s.line)

  went_begun : (s t : LineWorld W D) (second : ℕ) (begin : Begin) → Goes s (Began second begin) t → Went did s.line t.line [] []
  went_begun s t second begin g =
      let b = g.line in
      subst (λ (x : Line W). Went did s.line x [] []) (sym b.line)
      (with_post (begun_by b.seen.post begin) (begun_same more b.seen.post begin)
      (went_on more (went_on more (went_asked more (is_idle s.line.end.link) s.line b.asked nothing b.asks) (went_served more (instant_of_second s.schedule second) false b.asked b.waited nothing b.served))
      (went_seen more (instant_of_second s.schedule second) begin b.waited b.seen nothing b.begun)))

  went_read : (s t : LineWorld W D) (room until second left : ℕ) (answer : Result Frame LinkFault) → ReadsFor did room until second left answer s.line t.line → Went did s.line t.line [] (read_in (Read room answer ∷ []))
  went_read s t zero until second left answer (is, same) = subst (λ (a : Result Frame LinkFault). Went did s.line t.line [] (read_in (Read zero a ∷ []))) (sym is) (unmoved s t same)
  went_read s t (suc room) until second left answer reads = by_answer answer reads where
    by_answer : (answer : Result Frame LinkFault) → ReadsTurn did until second left answer s.line t.line → Went did s.line t.line [] (read_in (Read (suc room) answer ∷ []))
    by_answer (Ok (frames.Message m)) r =
        let (whole, rest, are, fits, new) = r.answers in
        subst (λ (x : Line W). Went did s.line x [] (m ∷ [])) (sym new) (took_first m rest are (went_served more until true s.line r.waited nothing r.served))
    by_answer (Ok (frames.EndOfTurn said)) r = subst (λ (x : Line W). Went did s.line x [] []) (sym r.answers.3) (went_served more until true s.line r.waited nothing r.served)
    by_answer (Ok frames.EndOfDay) r = absurd r.answers
    by_answer (Err fault) r = subst (λ (x : Line W). Went did s.line x [] []) (sym r.answers.1) (went_served more until true s.line r.waited nothing r.served)

  went_took : (s t : LineWorld W D) (left : ℕ) (message : Option (ArrayVec ℕ)) → TakesMessage did left message s.line t.line → Went did s.line t.line [] (read_in (Took message ∷ []))
  went_took s t left (Some m) r =
      let (whole, rest, are, fits, new) = r.takes in
      subst (λ (x : Line W). Went did s.line x [] (m ∷ [])) (sym new) (took_first m rest are (went_polled more s.line r.polled r.polls.came nothing r.polls.run))
  went_took s t left None r = subst (λ (x : Line W). Went did s.line x [] []) (sym r.takes.1) (went_polled more s.line r.polled r.polls.came nothing r.polls.run)

  went_act : (s t : LineWorld W D) (act : Act) → Goes s act t → WentBy s t (act ∷ [])
  went_act s t (Began second begin) g = quiet s t (Began second begin) refl refl (went_begun s t second begin g)
  went_act s t (Dropped loss) g =
      quiet s t (Dropped loss) refl refl (subst (λ (x : Line W). Went did s.line x [] []) (sym g.line) (with_post (dropped_by s.line.post loss) (dropped_same more s.line.post loss) (went_none nothing s.line)))
  went_act s t (Logged event done) g = quiet s t (Logged event done) refl refl (unmoved s t g.line)
  went_act s t (Synced done) g = quiet s t (Synced done) refl refl (unmoved s t g.line)
  went_act s t (Wrote octets done) g =
      let w = g.line in
      record {
        gives = w.gives.given;
        written = (w.gives.given, w.gives.rest, [], subst (λ ms. IsTextOfMessages ms octets) w.gives.all w.text, w.gives.whole, sym (append-nil w.gives.given), refl);
        went = went_given more s.line t.line w.gives.given nothing w.gives.run;
      }
  went_act s t (Read room answer) g = record { gives = []; written = refl; went = went_read s t room _ s.second _ answer g.line }
  went_act s t (Took message) g = record { gives = []; written = refl; went = went_took s t _ message g.line }
  went_act s t EndedDay g = quiet s t EndedDay refl refl (unmoved s t g.line)

  written_on : (act : Act) (acts : List Act) (xs ys : List (ArrayVec ℕ)) → AreWritten (act ∷ []) xs → AreWritten acts ys → AreWritten (act ∷ acts) (xs ++ ys)
  written_on (Wrote octets done) acts xs ys (here, rest, none, text, whole, is, nil) w =
      (here, rest, ys, text, whole, ap (λ ms. ms ++ ys) (is ∙ (ap (λ ms. here ++ ms) nil ∙ append-nil here)), w)
  written_on act acts xs ys e w = subst (λ ms. AreWritten acts (ms ++ ys)) (sym e) w

  read_more : (act : Act) (acts : List Act) → read_in (act ∷ acts) ≡ read_in (act ∷ []) ++ read_in acts
  read_more (Read room (Ok (frames.Message m))) acts = refl
  read_more (Took (Some m)) acts = refl
  read_more act acts = refl

  went_acts : (s t : LineWorld W D) (acts : List Act) → Chain Goes s acts t → WentBy s t acts
  went_acts s t [] e = record { gives = []; written = refl; went = subst (λ (x : LineWorld W D). Went did s.line x.line [] []) e (went_none nothing s.line) }
  went_acts s t (act ∷ acts) chain =
      let (mid, one, rest) = chain_first Goes s t act acts chain in
      let here = went_act s mid act one in
      let there = went_acts mid t acts rest in
      record {
        gives = here.gives ++ there.gives;
        written = written_on act acts here.gives there.gives here.written there.written;
        went = subst (λ ms. Went did s.line t.line (here.gives ++ there.gives) ms) (sym (read_more act acts)) (went_on more here.went there.went);
      }

  pub over_link : (old new : LineWorld W D) (acts : List Act) → Chain Goes old acts new → GoesOverLink did old new acts
  over_link old new acts chain =
      let w = went_acts old new acts chain in
      record {
        events = w.went.events;
        wire = w.went.wire;
        link = w.went.link;
        written = subst (AreWritten acts) (sym w.went.gave) w.written;
        read = w.went.came;
      }
