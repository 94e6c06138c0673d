-- Where each end's reader gives what the other end writes, a day of both ends is one in turns: what each end hears in a turn is what
-- the other has written for it, so its events are those of `Lockstep`, turn by turn.
use Rattle.std.proofs.Common.{◌≡◌, ◌≤◌, ◌<◌, ℕ, zero, suc, ◌+◌, ◌^◌, nat_le, Bool, true, false, if◌then◌else◌, List, [], ◌∷◌, ◌++◌, Option, Result, Ok, Err, refl, sym, ap, subst, ◌∙◌, append_assoc, arith}
use Rattle.std.specs.List.{AllByRecursion}
use Rattle.std.proofs.lemmas.List.{append-nil, map-append}
use Rattle.std.proofs.lemmas.Grind.{flat_map-append}
use Rattle.bx_q931.specs.Outgoing.{Outgoing, out_octets}
use Rattle.bx_q931.proofs.PartsLemmas.{few_octets}
use Rattle.bx_calls.specs.Sending.{reply_list, spelled}
use Rattle.bx_events.specs.Events.{Event, Tick}
use Rattle.bx_frames.specs.Courses.{after, told}
use Rattle.bx_frames.specs.Frames.{frame_with, frames_of, turn_frame}
use Rattle.bx_frames.specs.Talks.{Talk, stop, with_events, turn_in}
use Rattle.bx_two_ends.proofs.Turning.{octets_day}
use Rattle.bx_frames.specs.declared.fault.LinkFault.{LinkFault}
use Rattle.bx_frames.specs.declared.frame.Receiver.TheVariants.{Exchange, FarEnd}
use Rattle.bx_frames.proofs.Events.{after_more, told_more}
use Rattle.bx_day.specs.Course.{exchange_next, exchange_text, answered_with}
use Rattle.bx_day.specs.Day.{Day}
use Rattle.bx_day.specs.Run.{receive_octets}
use Rattle.bx_day.specs.Ticks.{tick}
use Rattle.bx_far.specs.Course.{far_next, far_text, far_due}
use Rattle.bx_far.specs.FarDay.{FarDay, far_tick, far_ticked}
use Rattle.bx_far.specs.FarRun.{far_receive_octets}
use Rattle.bx_link.specs.Talking.{follow_by, far_hears, far_talk_in, closed_before, ticked_talk}
use Rattle.bx_sessions.specs.Talking.{exchange_turn, talk_in}
use Rattle.bx_two_ends.specs.Earning.{heard_in, seconds_after}
use Rattle.bx_two_ends.specs.Lockstep.{Ends, far_heard, far_says, exchange_says, received_in, octets_received, replies_in, far_after_calls, turns_from}
use Rattle.bx_two_ends.proofs.Delivery.{Sendable, never_acknowledged}
use Rattle.bx_two_ends.proofs.ExchangeLimits.{tick_sendable, tick_within}
use Rattle.bx_two_ends.proofs.ExchangeTicks.{tick_seats}
use Rattle.bx_two_ends.proofs.FarLimits.{FarTickOk, far_tick_ok}
use Rattle.bx_two_ends.proofs.History.{all_joined}
use Rattle.bx_two_ends.proofs.Outward.{Seats}
use Rattle.bx_two_ends.specs.Scripts.{IsScriptRow}
use Rattle.bx_day.proofs.Passing.{tick_is}
use Rattle.std.proofs.lemmas.Bool.Decides.{nat_tests}
use Rattle.bx_calls.specs.Sending.{Sent}
use Rattle.bx_two_ends.proofs.Framed.{AreShort, received, whole_turn, turn_again}
use Rattle.bx_two_ends.proofs.JoinedLimits.{FarHolds, FarHeard, NearHolds, NearHeard, octets_of, near_hears}
use Rattle.bx_two_ends.proofs.JoinedLimits as limits

-- ---- messages as frames, and as events

abbrev pub framed : List Outgoing → List ℕ
framed os = frames_of (spelled os)

pub framed_more : (xs ys : List Outgoing) → framed (xs ++ ys) ≡ framed xs ++ framed ys
framed_more xs ys = ap frames_of (map-append (λ (o : Outgoing). record { items = out_octets o }) xs ys) ∙ flat_map-append frame_with (spelled xs) (spelled ys)

pub all_short : (os : List Outgoing) → AllByRecursion Sendable os → AreShort (spelled os)
all_short [] s = tt
all_short (o ∷ os) s = let few = few_octets o s.0.called in (omega (arith, few), all_short os s.1)

abbrev pub hearings : List Outgoing → List Event
hearings os = received (spelled os)

pub far_after : (os : List Outgoing) (f : FarDay) → after far_next (hearings os) f ≡ far_heard os f
far_after [] f = refl
far_after (o ∷ os) f = far_after os (far_receive_octets f (out_octets o)).day

pub far_told : (os : List Outgoing) (f : FarDay) → told far_next far_text (hearings os) f ≡ framed (far_says os f)
far_told [] f = refl
far_told (o ∷ os) f =
    let x = far_receive_octets f (out_octets o) in
    ap (λ (l : List ℕ). framed (reply_list x.reply) ++ l) (far_told os x.day) ∙ sym (framed_more (reply_list x.reply) (far_says os x.day))

pub near_after : (os : List Outgoing) (d : Day) → after exchange_next (hearings os) d ≡ heard_in (octets_of os) d
near_after [] d = refl
near_after (o ∷ os) d = near_after os (receive_octets d (out_octets o)).day

pub near_told : (os : List Outgoing) (d : Day) → AllByRecursion Sendable os → told exchange_next exchange_text (hearings os) d ≡ framed (exchange_says os d)
near_told [] d s = refl
near_told (o ∷ os) d s =
    let x = receive_octets d (out_octets o) in
    ap (λ (a : Option (List ℕ)). frames_of (answered_with a (spelled (reply_list x.reply))) ++ told exchange_next exchange_text (hearings os) x.day) (never_acknowledged o s.0)
    ∙ ap (λ (l : List ℕ). framed (reply_list x.reply) ++ l) (near_told os x.day s.1) ∙ sym (framed_more (reply_list x.reply) (exchange_says os x.day))

-- what the far end says, and is, after two lists of messages
pub far_heard_more : (xs ys : List Outgoing) (f : FarDay) → far_heard (xs ++ ys) f ≡ far_heard ys (far_heard xs f)
far_heard_more [] ys f = refl
far_heard_more (x ∷ xs) ys f = far_heard_more xs ys (far_receive_octets f (out_octets x)).day

pub far_says_more : (xs ys : List Outgoing) (f : FarDay) → far_says (xs ++ ys) f ≡ far_says xs f ++ far_says ys (far_heard xs f)
far_says_more [] ys f = refl
far_says_more (x ∷ xs) ys f =
    let a = far_receive_octets f (out_octets x) in
    ap (λ (l : List Outgoing). reply_list a.reply ++ l) (far_says_more xs ys a.day) ∙ sym (append_assoc (reply_list a.reply) (far_says xs a.day) (far_says ys (far_heard xs a.day)))

-- ---- how a turn ends

-- what is followed by something that ends without a fault ends without one
follow_ends : (first over : Talk) (next : List Event → List ℕ → Talk) (a : Bool) → Ok a ≡ (follow_by first.ending first next over).ending → (b : Bool) × (Ok b ≡ first.ending)
follow_ends first over next a e = go first.ending refl e
  where
    go : (x : Result Bool LinkFault) → first.ending ≡ x → Ok a ≡ (follow_by x first next over).ending → (b : Bool) × (Ok b ≡ first.ending)
    go (Ok b) q p = (b, sym q)
    go (Err fault) q p = (a, p)

far_tick_is : (g : FarDay) → g.moment < 300000 → far_tick g ≡ far_ticked g
far_tick_is g early = let late : nat_le 300000 g.moment ≡ false = grind (arith, nat_tests) in ap (λ (b : Bool). let s : Sent FarDay = if b then record { day = g; sent = [] } else far_ticked g in s) late

-- ---- one turn, and all turns

abbrev pub ends_of : Day → FarDay → List Outgoing → Ends
ends_of d f r = record { exchange = d; far = far_heard r f; pending = far_says r f }

-- what stands between two turns: both days, and what the exchange has said and the far end not heard
pub record Between (assigned : List (Option ℕ)) (d : Day) (f : FarDay) (r : List Outgoing) : Type 0 where
  pub near : NearHolds assigned d
  pub far : FarHolds f
  pub said : AllByRecursion Sendable r
  pub moment : f.moment ≡ d.moment

-- what was written and read from there on, in so many turns of the exchange and of the far end, of which the last is the end of the day
pub record Crosses (n k : ℕ) (d : Day) (f : FarDay) (r : List Outgoing) (said far_said more far_more : List ℕ) : Type 0 where
  pub written : said ≡ told exchange_next exchange_text (talk_in n d (far_said ++ more)).events d
  pub far_written : far_said ≡ told far_next far_text (far_talk_in k f (framed r ++ (said ++ far_more))).events f
  pub ending : Ok true ≡ (talk_in n d (far_said ++ more)).ending
  pub far_ending : Ok false ≡ (far_talk_in k f (framed r ++ (said ++ far_more))).ending

module _ (a b c y z : List ℕ) where
  text_to_far : a ++ (((b ++ c) ++ y) ++ z) ≡ (a ++ b) ++ (c ++ (y ++ z))
  text_to_far = ap (λ (l : List ℕ). a ++ l) (append_assoc (b ++ c) y z ∙ append_assoc b c (y ++ z)) ∙ sym (append_assoc a b (c ++ (y ++ z)))

  text_to_near : ((a ++ b) ++ ((c ++ y) ++ [])) ++ z ≡ (a ++ (b ++ c)) ++ (y ++ z)
  text_to_near =
      ap (λ (l : List ℕ). ((a ++ b) ++ l) ++ z) (append-nil (c ++ y))
      ∙ append_assoc (a ++ b) (c ++ y) z
      ∙ ap (λ (l : List ℕ). (a ++ b) ++ l) (append_assoc c y z)
      ∙ append_assoc a b (c ++ (y ++ z))
      ∙ ap (λ (l : List ℕ). a ++ l) (sym (append_assoc b c (y ++ z)))
      ∙ sym (append_assoc a (b ++ c) (y ++ z))

-- what the exchange hears after its tick, in so many turns of which this is the first
abbrev pub Onward : ℕ → Day → Talk → Talk
Onward n d1 first = follow_by first.ending first (λ events. talk_in n (after exchange_next events d1)) first

abbrev FarTurned : Talk → Talk
FarTurned heard = follow_by heard.ending heard (λ events. ticked_talk) heard

abbrev FarOnward : ℕ → FarDay → Talk → Talk
FarOnward k f heard = follow_by (FarTurned heard).ending (FarTurned heard) (λ events. far_talk_in k (after far_next events f)) (closed_before k (FarTurned heard))

pub talk_step : (n : ℕ) (d : Day) (text : List ℕ) → talk_in (suc n) d text ≡ with_events (Tick ∷ []) (Onward n (tick d).day (exchange_turn (tick d).day text))
unfolding talk_in
talk_step n d text = refl

far_talk_step : (k : ℕ) (f : FarDay) (text : List ℕ) → far_talk_in (suc k) f text ≡ FarOnward k f (far_hears f text)
unfolding far_talk_in
far_talk_step k f text = refl

far_talk_none : (f : FarDay) (text : List ℕ) → (far_talk_in zero f text).ending ≡ Ok true
unfolding far_talk_in
far_talk_none f text = refl

pub talk_nothing : (d : Day) (text : List ℕ) → talk_in zero d text ≡ stop (Ok true) text text
unfolding talk_in
talk_nothing d text = refl

-- a message leaves the moment
pub receive_moment : (d : Day) (octets : List ℕ) → (receive_octets d octets).day.moment ≡ d.moment
receive_moment d octets = octets_day (λ x. x.moment ≡ d.moment) d octets refl (λ s i. refl) (λ s i is_open'. refl)

talk_none : (d : Day) (text : List ℕ) → (talk_in zero d text).events ≡ []
unfolding talk_in
talk_none d text = refl

module _ (assigned : List (Option ℕ)) (n k : ℕ) (d : Day) (f : FarDay) (r : List Outgoing) (said far_said more far_more : List ℕ) (h : Between assigned d f r) (early : d.moment < 300000) (c : Crosses (suc n) (suc k) d f r said far_said more far_more) where
  abbrev D1 : Day
  D1 = (tick d).day

  abbrev S : List Outgoing
  S = (tick d).sent

  abbrev E : Ends
  E = ends_of d f r

  abbrev G : FarDay
  G = far_after_calls E

  abbrev F1 : FarDay
  F1 = (far_tick G).day

  abbrev R : List Outgoing
  R = received_in E

  abbrev D2 : Day
  D2 = heard_in (octets_received E) D1

  abbrev R1 : List Outgoing
  R1 = replies_in E

  -- ---- limits

  near1 : NearHolds assigned D1
  near1 = record {
    seats = subst (λ (s : Sent Day). Seats assigned s.day.entries) (sym (tick_is d early)) (tick_seats assigned d h.near.seats);
    within = tick_within assigned d h.near.seats h.near.within;
  }

  near_said : AllByRecursion Sendable S
  near_said = tick_sendable assigned d h.near.seats h.near.within

  moment1 : D1.moment ≡ d.moment + 1
  moment1 = ap (λ (s : Sent Day). s.day.moment) (tick_is d early)

  heard_r : FarHeard r f
  heard_r = limits.far_hears r f h.said h.far

  heard_s : FarHeard S (far_heard r f)
  heard_s = limits.far_hears S (far_heard r f) near_said heard_r.holds

  momentG : G.moment ≡ d.moment
  momentG = heard_s.moment ∙ heard_r.moment ∙ h.moment

  tick_far : FarTickOk (far_tick G)
  tick_far = far_tick_ok G heard_s.holds.script heard_s.holds.within

  far_ticks : far_tick G ≡ far_ticked G
  far_ticks = far_tick_is G (omega (arith, momentG, early))

  far1 : FarHolds F1
  far1 = record { script = subst (λ (s : Sent FarDay). AllByRecursion IsScriptRow s.day.script) (sym far_ticks) heard_s.holds.script; within = tick_far.lims }

  momentF1 : F1.moment ≡ D1.moment
  momentF1 = let ticked' : F1.moment ≡ G.moment + 1 = ap (λ (s : Sent FarDay). s.day.moment) far_ticks in omega (arith, ticked', momentG, moment1)

  r_said : AllByRecursion Sendable R
  r_said = all_joined Sendable (far_says r f) (far_says S (far_heard r f) ++ (far_tick G).sent) heard_r.said (all_joined Sendable (far_says S (far_heard r f)) (far_tick G).sent heard_s.said tick_far.sent)

  heard_near : NearHeard assigned R D1
  heard_near = near_hears assigned R D1 r_said near1

  pub between : Between assigned D2 F1 R1
  between = record { near = heard_near.holds; far = far1; said = heard_near.said; moment = momentF1 ∙ sym heard_near.moment }

  due : far_due f ≡ D1.moment
  due = omega (arith, h.moment, moment1, early)

  few : D1.moment < 2 ^ 32
  few = omega (arith, moment1, early)

  -- ---- what the far end hears and says

  abbrev W : Talk
  W = Onward n D1 (exchange_turn D1 (far_said ++ more))

  abbrev Said1 : List ℕ
  Said1 = told exchange_next exchange_text W.events D1

  says : said ≡ (framed S ++ turn_frame D1.moment) ++ Said1
  says = c.written ∙ ap (λ (t : Talk). told exchange_next exchange_text t.events d) (talk_step n d (far_said ++ more))

  abbrev FarText : List ℕ
  FarText = framed r ++ (said ++ far_more)

  abbrev FarTurnText : List ℕ
  FarTurnText = framed (r ++ S) ++ (turn_frame D1.moment ++ (Said1 ++ far_more))

  to_far : FarText ≡ FarTurnText
  to_far = ap (λ (l : List ℕ). framed r ++ (l ++ far_more)) says ∙ text_to_far (framed r) (framed S) (turn_frame D1.moment) Said1 far_more ∙ ap (λ (l : List ℕ). l ++ (turn_frame D1.moment ++ (Said1 ++ far_more))) (sym (framed_more r S))

  abbrev FarHeards : Talk
  FarHeards = whole_turn (spelled (r ++ S)) (Said1 ++ far_more)

  far_first : far_hears f FarText ≡ FarHeards
  far_first =
      let ended = follow_ends (FarTurned (far_hears f FarText)) (closed_before k (FarTurned (far_hears f FarText))) (λ events. far_talk_in k (after far_next events f)) false (c.far_ending ∙ ap (λ (t : Talk). t.ending) (far_talk_step k f FarText)) in
      let heard = follow_ends (far_hears f FarText) (far_hears f FarText) (λ events. ticked_talk) ended.0 ended.1 in
      let same : far_hears f FarText ≡ turn_in FarEnd D1.moment 64 FarTurnText = ap (λ (m : ℕ). turn_in FarEnd m 64 FarText) due ∙ ap (turn_in FarEnd D1.moment 64) to_far in
      same ∙ turn_again FarEnd D1.moment few (Said1 ++ far_more) 64 (spelled (r ++ S)) heard.0 (all_short (r ++ S) (all_joined Sendable r S h.said near_said)) (heard.1 ∙ ap (λ (t : Talk). t.ending) same)

  abbrev FarEvents : List Event
  FarEvents = hearings (r ++ S) ++ Tick ∷ []

  heard_both : after far_next (hearings (r ++ S)) f ≡ G
  heard_both = far_after (r ++ S) f ∙ far_heard_more r S f

  far_following : after far_next FarEvents f ≡ F1
  far_following = after_more far_next (hearings (r ++ S)) (Tick ∷ []) f ∙ ap (λ (x : FarDay). (far_tick x).day) heard_both

  abbrev FarRest : Talk
  FarRest = far_talk_in k F1 (Said1 ++ far_more)

  far_goes : far_talk_in (suc k) f FarText ≡ with_events FarEvents FarRest
  far_goes = far_talk_step k f FarText ∙ ap (FarOnward k f) far_first ∙ ap (λ (x : FarDay). with_events FarEvents (far_talk_in k x (Said1 ++ far_more))) far_following

  abbrev FarSaid1 : List ℕ
  FarSaid1 = told far_next far_text FarRest.events F1

  far_tells : told far_next far_text FarEvents f ≡ framed (far_says (r ++ S) f) ++ ((framed (far_tick G).sent ++ turn_frame F1.moment) ++ [])
  far_tells =
      told_more far_next far_text (hearings (r ++ S)) (Tick ∷ []) f
      ∙ ap (λ (l : List ℕ). l ++ told far_next far_text (Tick ∷ []) (after far_next (hearings (r ++ S)) f)) (far_told (r ++ S) f)
      ∙ ap (λ (x : FarDay). framed (far_says (r ++ S) f) ++ told far_next far_text (Tick ∷ []) x) heard_both

  far_framed : framed (far_says (r ++ S) f) ≡ framed (far_says r f) ++ framed (far_says S (far_heard r f))
  far_framed = ap framed (far_says_more r S f) ∙ framed_more (far_says r f) (far_says S (far_heard r f))

  framed_r : framed R ≡ framed (far_says r f) ++ (framed (far_says S (far_heard r f)) ++ framed (far_tick G).sent)
  framed_r = framed_more (far_says r f) (far_says S (far_heard r f) ++ (far_tick G).sent) ∙ ap (λ (l : List ℕ). framed (far_says r f) ++ l) (framed_more (far_says S (far_heard r f)) (far_tick G).sent)

  far_says_so : far_said ≡ framed R ++ (turn_frame D1.moment ++ FarSaid1)
  far_says_so =
      c.far_written
      ∙ ap (λ (t : Talk). told far_next far_text t.events f) far_goes
      ∙ told_more far_next far_text FarEvents FarRest.events f
      ∙ ap (λ (x : FarDay). told far_next far_text FarEvents f ++ told far_next far_text FarRest.events x) far_following
      ∙ ap (λ (l : List ℕ). l ++ FarSaid1) far_tells
      ∙ ap (λ (l : List ℕ). (l ++ ((framed (far_tick G).sent ++ turn_frame F1.moment) ++ [])) ++ FarSaid1) far_framed
      ∙ text_to_near (framed (far_says r f)) (framed (far_says S (far_heard r f))) (framed (far_tick G).sent) (turn_frame F1.moment) FarSaid1
      ∙ ap (λ (l : List ℕ). l ++ (turn_frame F1.moment ++ FarSaid1)) (sym framed_r)
      ∙ ap (λ (m : ℕ). framed R ++ (turn_frame m ++ FarSaid1)) momentF1

  -- ---- what the exchange hears and says

  abbrev NearTurnText : List ℕ
  NearTurnText = framed R ++ (turn_frame D1.moment ++ (FarSaid1 ++ more))

  to_near : far_said ++ more ≡ NearTurnText
  to_near = ap (λ (l : List ℕ). l ++ more) far_says_so ∙ append_assoc (framed R) (turn_frame D1.moment ++ FarSaid1) more ∙ ap (λ (l : List ℕ). framed R ++ l) (append_assoc (turn_frame D1.moment) FarSaid1 more)

  near_first : exchange_turn D1 (far_said ++ more) ≡ whole_turn (spelled R) (FarSaid1 ++ more)
  near_first =
      let heard = follow_ends (exchange_turn D1 (far_said ++ more)) (exchange_turn D1 (far_said ++ more)) (λ events. talk_in n (after exchange_next events D1)) true (c.ending ∙ ap (λ (t : Talk). t.ending) (talk_step n d (far_said ++ more))) in
      let same : exchange_turn D1 (far_said ++ more) ≡ turn_in Exchange D1.moment 64 NearTurnText = ap (turn_in Exchange D1.moment 64) to_near in
      same ∙ turn_again Exchange D1.moment few (FarSaid1 ++ more) 64 (spelled R) heard.0 (all_short R r_said) (heard.1 ∙ ap (λ (t : Talk). t.ending) same)

  abbrev NearRest : Talk
  NearRest = talk_in n D2 (FarSaid1 ++ more)

  near_goes : W ≡ with_events (hearings R) NearRest
  near_goes = ap (Onward n D1) near_first ∙ ap (λ (x : Day). with_events (hearings R) (talk_in n x (FarSaid1 ++ more))) (near_after R D1)

  abbrev Said2 : List ℕ
  Said2 = told exchange_next exchange_text NearRest.events D2

  says_on : Said1 ≡ framed R1 ++ Said2
  says_on =
      ap (λ (t : Talk). told exchange_next exchange_text t.events D1) near_goes
      ∙ told_more exchange_next exchange_text (hearings R) NearRest.events D1
      ∙ ap (λ (x : Day). told exchange_next exchange_text (hearings R) D1 ++ told exchange_next exchange_text NearRest.events x) (near_after R D1)
      ∙ ap (λ (l : List ℕ). l ++ Said2) (near_told R D1 r_said)

  left : Said1 ++ far_more ≡ framed R1 ++ (Said2 ++ far_more)
  left = ap (λ (l : List ℕ). l ++ far_more) says_on ∙ append_assoc (framed R1) Said2 far_more

  pub crosses : Crosses n k D2 F1 R1 Said2 FarSaid1 more far_more
  crosses = record {
    written = refl;
    far_written = ap (λ (l : List ℕ). told far_next far_text (far_talk_in k F1 l).events F1) left;
    ending = c.ending ∙ ap (λ (t : Talk). t.ending) (talk_step n d (far_said ++ more)) ∙ ap (λ (t : Talk). t.ending) near_goes;
    far_ending = c.far_ending ∙ ap (λ (t : Talk). t.ending) far_goes ∙ ap (λ (l : List ℕ). (far_talk_in k F1 l).ending) left;
  }

  pub goes_on : after exchange_next (talk_in (suc n) d (far_said ++ more)).events d ≡ after exchange_next NearRest.events D2
  goes_on =
      ap (λ (t : Talk). after exchange_next t.events d) (talk_step n d (far_said ++ more))
      ∙ ap (λ (t : Talk). after exchange_next t.events D1) near_goes
      ∙ after_more exchange_next (hearings R) NearRest.events D1
      ∙ ap (after exchange_next NearRest.events) (near_after R D1)

  pub moment2 : D2.moment ≡ d.moment + 1
  moment2 = heard_near.moment ∙ moment1

pub in_turns : (assigned : List (Option ℕ)) (n k : ℕ) (d : Day) (f : FarDay) (r : List Outgoing) (said far_said more far_more : List ℕ) → Between assigned d f r → d.moment + n ≤ 300000 → Crosses n k d f r said far_said more far_more
    → after exchange_next (talk_in n d (far_said ++ more)).events d ≡ seconds_after (turns_from n (ends_of d f r)) d
in_turns assigned zero k d f r said far_said more far_more h room c = ap (λ (es : List Event). after exchange_next es d) (talk_none d (far_said ++ more))
in_turns assigned (suc n) zero d f r said far_said more far_more h room c = let none = c.far_ending ∙ far_talk_none f (framed r ++ (said ++ far_more)) in absurd cc
in_turns assigned (suc n) (suc k) d f r said far_said more far_more h room c =
    let early : d.moment < 300000 = omega (arith, room) in
    let later = moment2 assigned n k d f r said far_said more far_more h early c in
    goes_on assigned n k d f r said far_said more far_more h early c
    ∙ in_turns assigned n k (D2 assigned n k d f r said far_said more far_more h early c) (F1 assigned n k d f r said far_said more far_more h early c) (R1 assigned n k d f r said far_said more far_more h early c)
    (Said2 assigned n k d f r said far_said more far_more h early c) (FarSaid1 assigned n k d f r said far_said more far_more h early c) more far_more
    (between assigned n k d f r said far_said more far_more h early c) (omega (arith, room, later)) (crosses assigned n k d f r said far_said more far_more h early c)
