-- Steps of a line, one after another.
use Rattle.std.proofs.Common.{◌≡◌, ℕ, ◌+◌, ◌<◌, List, [], ◌∷◌, ◌++◌, length, take, get_or, map, refl, sym, ap, ◌∙◌, subst, true, false, not, Bool, inl, inr, Option, Some, None, is_some, arith, drop}
use Rattle.std.proofs.lemmas.List.{take_more, take-append-drop}
use Rattle.arrayvec.specs.ArrayVec.{ArrayVec}
use Rattle.bx_lapd.specs.declared.frame.Frame.{Frame}
use Rattle.bx_lapd.specs.declared.indication.Indication.{Indication}
use Rattle.bx_lapd.specs.Links.{LinkStep, Did, Makes}
use Rattle.bx_lapd.specs.Codec.{sent_octets}
use Rattle.bx_lapd.specs.Endpoints.{PlainEndpoint}
use Rattle.bx_live.specs.Chains.{Chain, chain_more}
use Rattle.bx_line_world.specs.Wires.{WireAct, Shown, Sent}
use Rattle.bx_line_world.specs.Posts.{told_to, all_told_to, is_lost}
use Rattle.bx_line_world.specs.Lines.{LineEvent, Serves, IsEventTaken, passed_by, instant_in, time_at, step_of, asked_of, shown_by, passed_after, sent_as}
use Rattle.bx_line_world.specs.Seeing.{Looked, LookedBy}
use Rattle.bx_line_world.specs.Serving.{Slice, Sliced, GivesMessage, Polls, Polled, has_come, ends_quiet}
use Rattle.bx_frames.specs.declared.frame.Frame.TheVariants as frames
use Rattle.bx_frames.specs.declared.fault.LinkFault.{LinkFault}
use Rattle.bx_lapd.specs.Table.{takes_data}
use Rattle.bx_line_world.specs.Days.{GivesAll, TakesWaiting}
use Rattle.bx_line_world.specs.Steps.{Looks, keeps, CarriesOut, GivesWhere, PolledBy, TakesFirst}
use Rattle.bx_line_world.specs.declared.line.Line.{Line}
use Rattle.bx_line_world.specs.declared.post.Post.{Post}

pub map_after : {A B : Type 0} (f : A → B) (xs : List A) (x : A) → map f (xs ++ x ∷ []) ≡ map f xs ++ f x ∷ []
map_after f [] x = refl
map_after f (y ∷ xs) x = ap (λ zs. f y ∷ zs) (map_after f xs x)

pub told_after : (p : Post) (xs : List Indication) (x : Indication) → all_told_to p (xs ++ x ∷ []) ≡ told_to (all_told_to p xs) x
told_after p [] x = refl
told_after p (y ∷ xs) x = told_after (told_to p y) xs x

pub length_after : {A : Type 0} (xs : List A) (x : A) → length (xs ++ x ∷ []) ≡ length xs + 1
length_after [] x = refl
length_after (y ∷ xs) x = omega (arith, length_after xs x)

pub told_more : (p : Post) (xs : List Indication) (i : ℕ) (x : Indication) → i < length xs → get_or xs i x ≡ x → told_to (all_told_to p (take i xs)) x ≡ all_told_to p (take (i + 1) xs)
told_more p xs i x here is =
    let prefix : take (i + 1) xs ≡ take i xs ++ x ∷ [] = subst (λ y. take (i + 1) xs ≡ take i xs ++ y ∷ []) is (take_more xs i x here) in
    sym (ap (λ ys. all_told_to p ys) prefix ∙ told_after p (take i xs) x)

pub kept_more : {W : Type 0} (a b : Line W) (p : Post) (xs : List Indication) (i : ℕ) (x : Indication) → i < length xs → x ≡ get_or xs i x → b ≡ keeps a (take i xs) → p ≡ told_to b.post x → record b { post = p } ≡ keeps a (take (i + 1) xs)
kept_more {W} a b p xs i x here is so_far told =
    ap (λ (q : Post). record b { post = q }) told ∙ (ap (λ (y : Line W). record y { post = told_to y.post x }) so_far ∙ ap (λ (q : Post). record a { post = q }) (told_more a.post xs i x here (sym is)))

pub lost_some : (o : Option LinkFault) → is_some o ≡ true → is_lost o ≡ true
lost_some (Some fault) e = refl
lost_some None e = cc

pub lost_none : (o : Option LinkFault) → is_some o ≡ false → o ≡ None
lost_none (Some fault) e = cc
lost_none None e = refl

-- the first message of those that wait
pub taken_first : {W : Type 0} (left : ℕ) (polled : Line W) (m : Option (ArrayVec ℕ)) (p : Post) → polled.post.lost ≡ None → TakesFirst left polled.post m p → TakesWaiting left polled m (record polled { post = p })
taken_first left polled (Some m) p whole (rest, are, fits, new) = (whole, rest, are, fits, ap (λ (x : Post). record polled { post = x }) new)
taken_first left polled None p whole (none, same) = (inr none, ap (λ (x : Post). record polled { post = x }) same)

quiet_following : (xs : List LineEvent) (came : LineEvent) → has_come came ≡ false → ends_quiet (xs ++ came ∷ []) ≡ true
quiet_following (x ∷ y ∷ xs) came none = quiet_following (y ∷ xs) came none
quiet_following xs came none = ap not none

module _ {W : Type 0} {did : W → List WireAct → W → Type 0} where
  module _ (more : (u v w : W) (xs ys : List WireAct) → did u xs v → did v ys w → did u (xs ++ ys) w) where
    pub sent_more : (a : W) (network : Bool) (xs : List Frame) (i : ℕ) (x : Frame) (b c : W) → i < length xs → get_or xs i x ≡ x → did a (map (sent_as network) (take i xs)) b → did b (Sent (sent_octets network x) ∷ []) c → did a (map (sent_as network) (take (i + 1) xs)) c
    sent_more a network xs i x b c here is so_far one =
        let prefix : take (i + 1) xs ≡ take i xs ++ x ∷ [] = subst (λ y. take (i + 1) xs ≡ take i xs ++ y ∷ []) is (take_more xs i x here) in
        let acts : map (sent_as network) (take (i + 1) xs) ≡ map (sent_as network) (take i xs) ++ sent_as network x ∷ [] = ap (λ ys. map (sent_as network) ys) prefix ∙ map_after (sent_as network) (take i xs) x in
        subst (λ ys. did a ys c) (sym acts) (more a b c (map (sent_as network) (take i xs)) (Sent (sent_octets network x) ∷ []) so_far one)

    -- a look at the clock, a call of the end by the table, and what it wants
    pub served_by : (o a b d : Line W) (e : PlainEndpoint) (done : Did) (event : LineEvent) (first : List WireAct) (table : PlainEndpoint → ℕ → LinkStep) (now : ℕ)
        → a ≡ record o { wire = a.wire } → did o.wire first a.wire → Looks did a b → now ≡ instant_in b.passed
        → asked_of o event ≡ first ++ Shown b.shown ∷ [] → shown_by o.shown event ≡ b.shown → passed_after o event ≡ passed_by o.passed o.shown b.shown → step_of o event ≡ table o.end (time_at o b.shown) → IsEventTaken o event
        → Makes (table b.end now) e.link done → e.network ≡ b.end.network → CarriesOut did done (record b { end = e }) d → Serves did o event d
    served_by o a b d e done event first table now ea before looks is_now asks is_shown is_passed is_step taken makes network carries =
        let end_b : b.end ≡ o.end = ap (λ (x : Line W). x.end) looks.rest ∙ ap (λ (x : Line W). x.end) ea in
        let post_b : b.post ≡ o.post = ap (λ (x : Line W). x.post) looks.rest ∙ ap (λ (x : Line W). x.post) ea in
        let passed_b : b.passed ≡ passed_by o.passed o.shown b.shown = ap (λ (x : Line W). x.passed) looks.rest ∙ ap (λ (x : Line W). passed_by x.passed x.shown b.shown) ea in
        let step : table b.end now ≡ step_of o event = ap (λ x. table x now) end_b ∙ (ap (λ t. table o.end t) (is_now ∙ ap instant_in passed_b) ∙ sym is_step) in
        let side : e.network ≡ o.end.network = network ∙ ap (λ (x : PlainEndpoint). x.network) end_b in
        let frames : done.frames ≡ (step_of o event).frames = makes.frames ∙ ap (λ (s : LinkStep). s.frames) step in
        let told : done.told ≡ (step_of o event).told = makes.told ∙ ap (λ (s : LinkStep). s.told) step in
        let looked : did o.wire (first ++ Shown b.shown ∷ []) b.wire = more o.wire a.wire b.wire first (Shown b.shown ∷ []) before looks.wire in
        let sent : did b.wire (map (sent_as o.end.network) (step_of o event).frames) d.wire =
        subst (λ fs. did b.wire (map (sent_as o.end.network) fs) d.wire) frames (subst (λ n. did b.wire (map (sent_as n) done.frames) d.wire) side carries.wire) in
        record {
          wire = more o.wire b.wire d.wire (asked_of o event) (map (sent_as o.end.network) (step_of o event).frames) (subst (λ xs. did o.wire xs b.wire) (sym asks) looked) sent;
          network = ap (λ (x : Line W). x.end.network) carries.rest ∙ side;
          link = ap (λ (x : Line W). x.end.link) carries.rest ∙ (makes.link ∙ ap (λ (s : LinkStep). s.link) step);
          post = ap (λ (x : Line W). x.post) carries.rest ∙ (ap (λ p. all_told_to p done.told) post_b ∙ ap (λ t. all_told_to o.post t) told);
          shown = ap (λ (x : Line W). x.shown) carries.rest ∙ sym is_shown;
          passed = ap (λ (x : Line W). x.passed) carries.rest ∙ (passed_b ∙ sym is_passed);
          taken = taken;
        }

  pub none_sliced : (until : ℕ) (in_turn : Bool) (a : Line W) → Sliced did until in_turn a a 0
  none_sliced until in_turn a = record { waits = []; run = refl; counted = refl }

  pub sliced_more : {until : ℕ} {in_turn : Bool} {a b c : Line W} {n : ℕ} {came : LineEvent} → Sliced did until in_turn a b n → Slice did until in_turn b came c → Sliced did until in_turn a c (n + 1)
  sliced_more {until} {in_turn} {a} {b} {c} {n} {came} s one = record {
    waits = s.waits ++ came ∷ [];
    run = chain_more (Slice did until in_turn) a b c s.waits (came ∷ []) s.run one;
    counted = length_after s.waits came ∙ ap (λ m. m + 1) s.counted;
  }

  pub none_looked : (until : ℕ) (a : Line W) → LookedBy did until a a 0
  none_looked until a = record { came = []; run = refl; counted = refl }

  pub looked_more : {until : ℕ} {a b c : Line W} {n : ℕ} {came : LineEvent} → LookedBy did until a b n → Looked did until b came c → LookedBy did until a c (n + 1)
  looked_more {until} {a} {b} {c} {n} {came} s one = record {
    came = s.came ++ came ∷ [];
    run = chain_more (Looked did until) a b c s.came (came ∷ []) s.run one;
    counted = length_after s.came came ∙ ap (λ m. m + 1) s.counted;
  }

  pub none_polled : (a : Line W) → PolledBy did 0 a a
  none_polled a = record { came = []; run = refl; counted = refl }

  pub polled_more : {a b c : Line W} {n : ℕ} {came : LineEvent} → PolledBy did n a b → Polls did b came c → PolledBy did (n + 1) a c
  polled_more {a} {b} {c} {n} {came} s one = record {
    came = s.came ++ came ∷ [];
    run = chain_more (Polls did) a b c s.came (came ∷ []) s.run one;
    counted = length_after s.came came ∙ ap (λ m. m + 1) s.counted;
  }

  -- and the last wait brought nothing
  pub polled_out : {a b c : Line W} {n : ℕ} {came : LineEvent} → PolledBy did n a b → Polls did b came c → has_come came ≡ false → Polled did a c
  polled_out {a} {b} {c} {n} {came} s one none = record {
    came = s.came ++ came ∷ [];
    run = chain_more (Polls did) a b c s.came (came ∷ []) s.run one;
    over = inr (inl (quiet_following s.came came none));
  }

  pub given_more : (a : Line W) (xs : List (ArrayVec ℕ)) (i : ℕ) (x : ArrayVec ℕ) (b c : Line W) → i < length xs → get_or xs i x ≡ x → Chain (GivesMessage did) a (take i xs) b → GivesMessage did b x c → Chain (GivesMessage did) a (take (i + 1) xs) c
  given_more a xs i x b c here is so_far one =
      let prefix : take (i + 1) xs ≡ take i xs ++ x ∷ [] = subst (λ y. take (i + 1) xs ≡ take i xs ++ y ∷ []) is (take_more xs i x here) in
      subst (λ ys. Chain (GivesMessage did) a ys c) (sym prefix) (chain_more (GivesMessage did) a b c (take i xs) (x ∷ []) so_far one)

  pub one_given : (m : ArrayVec ℕ) (ok : Bool) (a b : Line W) → GivesWhere did m ok a b → GivesAll did (m ∷ []) ok a b
  one_given m true a b given = record { given = m ∷ []; rest = []; all = refl; run = given; whole = λ e. refl; refused = λ e. absurd (cc) }
  one_given m false a b (same, full) = record { given = []; rest = m ∷ []; all = refl; run = sym same; whole = λ e. absurd (cc); refused = λ e. subst (λ (x : Line W). takes_data x.end.link.state x.end.link ≡ false) (sym same) full }

  pub refused_at : (a : Line W) (xs : List (ArrayVec ℕ)) (i : ℕ) (b c : Line W) → Chain (GivesMessage did) a (take i xs) b → (c ≡ b) × (takes_data b.end.link.state b.end.link ≡ false) → GivesAll did xs false a c
  refused_at a xs i b c run (same, full) = record {
    given = take i xs;
    rest = drop i xs;
    all = sym (take-append-drop i xs);
    run = subst (λ (x : Line W). Chain (GivesMessage did) a (take i xs) x) (sym same) run;
    whole = λ e. absurd (cc);
    refused = λ e. subst (λ (x : Line W). takes_data x.end.link.state x.end.link ≡ false) (sym same) full;
  }
