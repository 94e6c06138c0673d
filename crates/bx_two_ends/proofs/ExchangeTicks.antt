-- A tick of the exchange keeps what is true of calls that it began.
use Rattle.std.proofs.Common.{◌≡◌, ◌⊎◌, inl, inr, ℕ, zero, suc, ◌+◌, ◌-◌, ◌==◌, ◌&&◌, ◌||◌, not, Bool, true, false, List, [], ◌∷◌, ◌++◌, is_some, Option, Some, None, refl, sym, ap, subst, ◌∙◌, arith, nat_le, if◌then◌else◌, le-leb, ne_eqb}
use Rattle.std.specs.List.{AllByRecursion, list_any, flat_map}
use Rattle.std.proofs.lemmas.Bool.{false≢true, true≢false, and_parts, and_from, eq-eqb, eqb-true, not-true, agree_below_at, or_left, or_right, not_from_false}
use Rattle.std.proofs.lemmas.List.Folds.{list_any-append}
use Rattle.bx_channels.specs.ChannelNumbers.{IsChannel}
use Rattle.bx_base.specs.Bookings.{Row}
use Rattle.bx_base.specs.Plans.{channel_at}
use Rattle.bx_q931.specs.declared.kind.Kind.{Kind}
use Rattle.bx_q931.specs.declared.kind.Kind.TheVariants.{Setup}
use Rattle.bx_q931.specs.Outgoing.{Outgoing}
use Rattle.bx_calls.specs.declared.transition.Transition.{Transition}
use Rattle.bx_calls.specs.declared.transition.Next.{Next}
use Rattle.bx_calls.specs.declared.transition.Next.TheVariants.{Live, Over, Broken}
use Rattle.bx_calls.specs.PlainCalls.{PlainNetCall}
use Rattle.bx_calls.specs.declared.net_state.NetOrigin.{NetOrigin}
use Rattle.bx_calls.specs.declared.net_state.NetOrigin.TheVariants.{Outward, Inward}
use Rattle.bx_calls.specs.declared.net_state.NetState.{NetState}
use Rattle.bx_calls.specs.NetTable.{net_flag, net_is_clearing, net_second}
use Rattle.bx_day.specs.declared.entry.Activity.{Activity}
use Rattle.bx_day.specs.declared.entry.Activity.TheVariants.{Never}
use Rattle.bx_day.specs.declared.entry.Entry.{Entry}
use Rattle.bx_day.specs.declared.entry.Moved.{Moved}
use Rattle.bx_day.specs.declared.entry.Standing.{Standing}
use Rattle.bx_day.specs.declared.entry.Standing.TheVariants.{Refused, Unoffered, OnCall, Carried, Unanswered, Missed}
use Rattle.bx_calls.specs.Shared.{cons_some}
use Rattle.bx_day.specs.Day.{is_back, Day, entry_at, is_free, every_channel}
use Rattle.bx_day.specs.Ticks.{second_at, waits, said_on, ticked, second_in}
use Rattle.bx_day.specs.Moves.{is_active, follow, over_at}
use Rattle.bx_day.specs.Invariant.{EntryFits, CallFits, OriginFits, DayFits, is_refused}
use Rattle.bx_day.specs.Law.{standing_at}
use Rattle.bx_day.proofs.Law.{at_map}
use Rattle.bx_day.proofs.Receive.{all_at}
use Rattle.bx_day.proofs.Said.{OfSaid, all_said}
use Rattle.bx_day.proofs.Tick.{by_cases, offers, second_refused}
use Rattle.bx_two_ends.proofs.NetworkRows.{Goes, OnNext, Speaks, Mild, second_goes, second_speaks, clears_as, is_proceeding}
use Rattle.bx_two_ends.proofs.History.{shows, from_beginner, is_setup_kind, sets_up, clears, has_more, has_new, has_none, none_all, found, all_joined, all_map, IsIn, all_in, all_both, beginner_parts, is_from_beginner, not_both, said_both, implied_false}
use Rattle.bx_two_ends.proofs.Outward.{is_started, is_calm, Seat, Seats, OutwardSent, OutwardSents, OutwardStanding, OutwardStandings}
use Rattle.bx_day.specs.declared.entry.Link.TheVariants.{Up}

-- what the booking of index i says at a tick after which it stands so
pub record TickSays (assigned : List (Option ℕ)) (sent : List Outgoing) (i : ℕ) (after : Standing) (o : Outgoing) : Type 0 where
  pub outward : o.flag ≡ false → o.reference ≡ suc i
  pub known : o.flag ≡ false → (is_setup_kind o.kind ≡ true) ⊎ (list_any (sets_up (suc i)) sent ≡ true)
  pub channel : o.kind ≡ Setup → o.channel ≡ Some (channel_at assigned i, true)
  pub started : o.kind ≡ Setup → is_started after ≡ true
  pub calm : is_calm after ≡ true → Mild o
  pub in_service : IsChannel (channel_at assigned i)

over_started : (a : Activity) (t : ℕ) → is_started (over_at a t) ≡ true
over_started Never t = refl
over_started a t = refl

over_calm : (a : Activity) (t : ℕ) → is_calm (over_at a t) ≡ false
over_calm Never t = refl
over_calm a t = refl

pub follow_started : (a : Activity) (t : ℕ) (said : Option Outgoing) (n : Next PlainNetCall) → is_started (follow a t said n).standing ≡ true
follow_started a t said (Live c) = refl
follow_started a t said Over = over_started a t
follow_started a t said Broken = over_started a t

-- a call that stays calm said nothing that clears
pub follow_calm : (r ch : ℕ) (o : NetOrigin) (s : NetState) (k : Bool) (a : Activity) (t : ℕ) (reply said : Option Outgoing) (n : Next PlainNetCall) → OnNext (Goes r ch o s k reply) n → is_calm (follow a t said n).standing ≡ true → OfSaid Mild reply
follow_calm r ch o s k a t reply said (Live c) g h = (g.mild (not-true (net_is_clearing c.state) h)).1
follow_calm r ch o s k a t reply said Over g h = absurd (true≢false (sym h ∙ over_calm a t))
follow_calm r ch o s k a t reply said Broken g h = absurd (true≢false (sym h ∙ over_calm a t))

pub follow_said : (P : Outgoing → Type 0) (a : Activity) (t : ℕ) (said : Option Outgoing) (n : Next PlainNetCall) → OfSaid P said → OfSaid P (follow a t said n).said
follow_said P a t said (Live c) h = h
follow_said P a t said n h = h

pub under_said : (A : Type 0) (P : Outgoing → Type 0) (said : Option Outgoing) → (A → OfSaid P said) → OfSaid (λ o. A → P o) said
under_said A P None f = tt
under_said A P (Some o) f = f

-- an outward call has the reference of its booking
pub outward_own : (own : ℕ) (b : Row) (r : ℕ) (o : NetOrigin) → OriginFits own b r o → net_flag o ≡ false → r ≡ own
outward_own own b r (Outward called) h q = h.1
outward_own own b r Inward h q = absurd (true≢false q)

abbrev pub TickSaysOf : List (Option ℕ) → List Outgoing → ℕ → Moved → Type 0
TickSaysOf assigned sent i m = OfSaid (TickSays assigned sent i m.standing) m.said

call_says : (assigned : List (Option ℕ)) (sent far_sent : List Outgoing) (i t : ℕ) (e : Entry) (c : PlainNetCall) (a : Activity) → Seat assigned i e → CallFits t e c a → OutwardStanding (suc i) sent far_sent (OnCall c a)
    → TickSaysOf assigned sent i (second_at e (t + 1) true true (OnCall c a))
call_says assigned sent far_sent i t e c a seat fits outward =
    let step : Transition PlainNetCall = net_second c (t + 1) e.booking.end in
    let after : Standing = (follow a (t + 1) step.reply step.next).standing in
    follow_said (TickSays assigned sent i after) a (t + 1) step.reply step.next
    (said_both (Speaks c.reference c.channel c.origin) (λ o. is_calm after ≡ true → Mild o) (TickSays assigned sent i after)
    (λ o s calm. record {
      outward = λ f. s.reference ∙ outward_own e.reference e.booking c.reference c.origin fits.origin (sym s.flag ∙ f) ∙ seat.reference;
      known = λ f. inr (outward (sym s.flag ∙ f)).known;
      channel = λ k. s.setup k ∙ ap (λ (x : ℕ). Some (x, true)) (fits.channel ∙ seat.channel);
      started = λ k. follow_started a (t + 1) step.reply step.next;
      calm = calm;
      in_service = subst IsChannel seat.channel seat.in_service;
    })
    step.reply
    (second_speaks c.reference c.channel c.origin (t + 1) e.booking.end c.state)
    (under_said (is_calm after ≡ true) Mild step.reply (follow_calm c.reference c.channel c.origin c.state false a (t + 1) step.reply step.reply step.next (second_goes c.reference c.channel c.origin (t + 1) e.booking.end c.state))))

waits_says : (assigned : List (Option ℕ)) (sent : List Outgoing) (i t : ℕ) (e : Entry) (back free : Bool) → Seat assigned i e → TickSaysOf assigned sent i (waits e t back free)
waits_says assigned sent i t e back free seat =
    by_cases (offers e t free) _ _ (TickSaysOf assigned sent i)
    (λ offered. record {
      outward = λ f. seat.reference;
      known = λ f. inl refl;
      channel = λ k. ap (λ (x : ℕ). Some (x, true)) seat.channel;
      started = λ k. refl;
      calm = λ c. refl;
      in_service = subst IsChannel seat.channel seat.in_service;
    })
    (λ _. by_cases (nat_le e.booking.end t) _ _ (TickSaysOf assigned sent i) (λ _. tt) (λ _. tt))

entry_says : (assigned : List (Option ℕ)) (sent far_sent : List Outgoing) (i t : ℕ) (e : Entry) (back free : Bool) (s : Standing) → e.standing ≡ s → (is_refused s ≡ false → Seat assigned i e) → EntryFits t (record e { standing = s }) → OutwardStanding (suc i) sent far_sent s
    → TickSaysOf assigned sent i (second_at e (t + 1) back free s)
entry_says assigned sent far_sent i t e back free Refused q seat fits outward = tt
entry_says assigned sent far_sent i t e back free Unoffered q seat fits outward = waits_says assigned sent i (t + 1) e back free (seat refl)
entry_says assigned sent far_sent i t e back free (OnCall c a) q seat fits outward = call_says assigned sent far_sent i t e c a (seat refl) (record { channel = fits.channel; origin = fits.origin; phase = fits.phase; due = fits.due; activity = fits.activity }) outward
entry_says assigned sent far_sent i t e back free (Carried from until) q seat fits outward = tt
entry_says assigned sent far_sent i t e back free Unanswered q seat fits outward = tt
entry_says assigned sent far_sent i t e back free Missed q seat fits outward = tt

pub after_at : (d : Day) (i : ℕ) → standing_at (ticked d).day i ≡ (second_in Up d (entry_at d.entries i)).standing
after_at d i = ap (λ (e : Entry). e.standing) (at_map d d.entries i)

index_says : (assigned : List (Option ℕ)) (sent far_sent : List Outgoing) (d : Day) → DayFits d → Seats assigned d.entries → OutwardStandings sent far_sent d → (i : ℕ)
    → OfSaid (TickSays assigned sent i (standing_at (ticked d).day i)) (second_in Up d (entry_at d.entries i)).said
index_says assigned sent far_sent d fits seats standings i =
    subst (λ s. OfSaid (TickSays assigned sent i s) (second_in Up d (entry_at d.entries i)).said) (sym (after_at d i))
    (entry_says assigned sent far_sent i d.moment (entry_at d.entries i) (is_back d) (is_free d (entry_at d.entries i).channel) (entry_at d.entries i).standing refl (seats i) (all_at (EntryFits d.moment) tt d.entries i fits.each) (standings i))

pub all_from : (P : Entry → Type 0) (es : List Entry) → ((i : ℕ) → P (entry_at es i)) → AllByRecursion P es
all_from P [] h = tt
all_from P (e ∷ es) h = (h 0, all_from P es (λ i. h (suc i)))

abbrev pub SaidBy : List (Option ℕ) → List Outgoing → Day → Outgoing → Type 0
SaidBy assigned sent after o = (i : ℕ) × TickSays assigned sent i (standing_at after i) o

to_by : (assigned : List (Option ℕ)) (sent : List Outgoing) (after : Day) (i : ℕ) (said : Option Outgoing) → OfSaid (TickSays assigned sent i (standing_at after i)) said → OfSaid (SaidBy assigned sent after) said
to_by assigned sent after i None h = tt
to_by assigned sent after i (Some o) h = (i, h)

-- every message of a tick is said by some booking
pub tick_says : (assigned : List (Option ℕ)) (sent far_sent : List Outgoing) (d : Day) → DayFits d → Seats assigned d.entries → OutwardStandings sent far_sent d → nat_le 300000 d.moment ≡ false → AllByRecursion (SaidBy assigned sent (ticked d).day) (ticked d).sent
tick_says assigned sent far_sent d fits seats standings late =
    subst (λ (b : Bool). AllByRecursion (SaidBy assigned sent (ticked d).day) (if b then record { day = d; sent = [] } else ticked d).sent) late
    (all_said (SaidBy assigned sent (ticked d).day) d (all_from (λ e. OfSaid (SaidBy assigned sent (ticked d).day) (second_in Up d e).said) d.entries
    (λ i. to_by assigned sent (ticked d).day i (second_in Up d (entry_at d.entries i)).said (index_says assigned sent far_sent d fits seats standings i))))

-- ---- what was sent

pub second_started : (e : Entry) (t : ℕ) (back free : Bool) (s : Standing) → is_started s ≡ true → is_started (second_at e t back free s).standing ≡ true
second_started e t back free (OnCall c a) h = follow_started a t (net_second c t e.booking.end).reply (net_second c t e.booking.end).next
second_started e t back free (Carried from until) h = h
second_started e t back free Unanswered h = h
second_started e t back free s h = absurd (false≢true h)

tick_started : (d : Day) (i : ℕ) → is_started (standing_at d i) ≡ true → is_started (standing_at (ticked d).day i) ≡ true
tick_started d i h = subst (λ s. is_started s ≡ true) (sym (after_at d i)) (second_started (entry_at d.entries i) (d.moment + 1) (is_back d) (is_free d (entry_at d.entries i).channel) (entry_at d.entries i).standing h)

less_one : (r i : ℕ) → r ≡ suc i → i ≡ r - 1
less_one r i q = omega (arith, q)

-- one that is new
pub new_sent : (assigned : List (Option ℕ)) (sent more : List Outgoing) (after : Day) (o : Outgoing) → SaidBy assigned sent after o → IsIn more o → o.flag ≡ false → OutwardSent assigned after (sent ++ more) o
new_sent assigned sent more after o (i, s) is_in f =
    let r : o.reference ≡ suc i = s.outward f in
    record {
      known = elim (s.known f) [
        | inl k ↦ has_new (sets_up o.reference) sent more (is_in (sets_up o.reference) (and_from (from_beginner o.reference o) (is_setup_kind o.kind) (is_from_beginner o.reference o refl f) k))
        | inr k ↦ has_more (sets_up o.reference) sent more (subst (λ n. list_any (sets_up n) sent ≡ true) (sym r) k)
      ];
      channel = λ k. s.channel k ∙ ap (λ (x : ℕ). Some (channel_at assigned x, true)) (less_one o.reference i r);
      started = λ k. subst (λ x. is_started (standing_at after x) ≡ true) (less_one o.reference i r) (s.started k);
      in_service = λ k. subst (λ x. IsChannel (channel_at assigned x)) (less_one o.reference i r) s.in_service;
    }

pub old_sent : (assigned : List (Option ℕ)) (sent more : List Outgoing) (before after : Day) (o : Outgoing) → ((i : ℕ) → is_started (standing_at before i) ≡ true → is_started (standing_at after i) ≡ true) → OutwardSent assigned before sent o → OutwardSent assigned after (sent ++ more) o
old_sent assigned sent more before after o f h = record {
  known = has_more (sets_up o.reference) sent more h.known;
  channel = h.channel;
  started = λ k. f (o.reference - 1) (h.started k);
  in_service = h.in_service;
}

pub sents_grow : (assigned : List (Option ℕ)) (sent more : List Outgoing) (before after : Day) → ((i : ℕ) → is_started (standing_at before i) ≡ true → is_started (standing_at after i) ≡ true) → OutwardSents assigned before sent sent → AllByRecursion (λ o. o.flag ≡ false → OutwardSent assigned after (sent ++ more) o) more → OutwardSents assigned after (sent ++ more) (sent ++ more)
sents_grow assigned sent more before after f h k = all_joined (λ o. o.flag ≡ false → OutwardSent assigned after (sent ++ more) o) sent more
    (all_map (λ o. o.flag ≡ false → OutwardSent assigned before sent o) (λ o. o.flag ≡ false → OutwardSent assigned after (sent ++ more) o) (λ o p q. old_sent assigned sent more before after o f (p q)) sent h) k

pub tick_sents : (assigned : List (Option ℕ)) (sent : List Outgoing) (d : Day) → AllByRecursion (SaidBy assigned sent (ticked d).day) (ticked d).sent → OutwardSents assigned d sent sent → OutwardSents assigned (ticked d).day (sent ++ (ticked d).sent) (sent ++ (ticked d).sent)
tick_sents assigned sent d says h =
    let more = (ticked d).sent in
    sents_grow assigned sent more d (ticked d).day (tick_started d) h
    (all_map (λ o. SaidBy assigned sent (ticked d).day o × IsIn more o) (λ o. o.flag ≡ false → OutwardSent assigned (ticked d).day (sent ++ more) o) (λ o p f. new_sent assigned sent more (ticked d).day o p.0 p.1 f) more
    (all_both (SaidBy assigned sent (ticked d).day) (IsIn more) more says (all_in more)))

-- ---- calls

-- nothing that clears a calm booking is among these
calm_says : (assigned : List (Option ℕ)) (sent : List Outgoing) (after : Day) (i : ℕ) (o : Outgoing) → is_calm (standing_at after i) ≡ true → SaidBy assigned sent after o → clears (suc i) o ≡ false
calm_says assigned sent after i o calm (j, s) = not_both (from_beginner (suc i) o) (clears_as o.kind o.state) (λ n c.
    let p = beginner_parts (suc i) o n in
    let q : j ≡ i = same j i (sym (s.outward p.1) ∙ p.0) in
    false≢true (sym (s.calm (subst (λ k. is_calm (standing_at after k) ≡ true) (sym q) calm)) ∙ c))
  where
    same : (x y : ℕ) → suc x ≡ suc y → x ≡ y
    same x y h = omega (arith, h)

more_calm : (assigned : List (Option ℕ)) (sent more : List Outgoing) (after : Day) (i : ℕ) → is_calm (standing_at after i) ≡ true → AllByRecursion (SaidBy assigned sent after) more → list_any (clears (suc i)) more ≡ false
more_calm assigned sent more after i calm says = none_all (clears (suc i)) more (all_map (SaidBy assigned sent after) (λ o. clears (suc i) o ≡ false) (λ o s. calm_says assigned sent after i o calm s) more says)

not_started : (assigned : List (Option ℕ)) (sent : List Outgoing) (d : Day) (i : ℕ) → OutwardSents assigned d sent sent → is_started (standing_at d i) ≡ false → list_any (sets_up (suc i)) sent ≡ true → ⊥
not_started assigned sent d i h never has =
    let x = found (λ o. o.flag ≡ false → OutwardSent assigned d sent o) (sets_up (suc i)) sent h has in
    let p = and_parts (from_beginner (suc i) x.0) (is_setup_kind x.0.kind) x.1 in
    let q = beginner_parts (suc i) x.0 p.0 in
    let k : x.0.kind ≡ Setup = setup_kind x.0.kind p.1 in
    false≢true (sym never ∙ subst (λ n. is_started (standing_at d n) ≡ true) (sym (less_one x.0.reference i q.0)) ((x.2 q.1).started k))
  where
    setup_kind : (k : Kind) → is_setup_kind k ≡ true → k ≡ Setup
    setup_kind Setup h = refl
    setup_kind k h = absurd (false≢true h)

-- a booking that was never offered was never cleared
never_cleared : (assigned : List (Option ℕ)) (sent : List Outgoing) (d : Day) (i : ℕ) → OutwardSents assigned d sent sent → is_started (standing_at d i) ≡ false → list_any (clears (suc i)) sent ≡ false
never_cleared assigned sent d i h never = decide (list_any (clears (suc i)) sent) refl
  where
    decide : (b : Bool) → list_any (clears (suc i)) sent ≡ b → b ≡ false
    decide false q = refl
    decide true q =
        let x = found (λ o. o.flag ≡ false → OutwardSent assigned d sent o) (clears (suc i)) sent h q in
        let p = and_parts (from_beginner (suc i) x.0) (clears_as x.0.kind x.0.state) x.1 in
        let r = beginner_parts (suc i) x.0 p.0 in
        absurd (not_started assigned sent d i h never (subst (λ n. list_any (sets_up n) sent ≡ true) r.0 (x.2 r.1).known))

-- ---- each booking's message is sent

abbrev is_among : ℕ → Bool
is_among c = nat_le 1 c && nat_le c 31 && not (c == 16)

pub every_has : (c : ℕ) → IsChannel c → list_any (λ k. k == c) every_channel ≡ true
every_has c h =
    agree_below_at (λ n. list_any (λ k. k == n) every_channel) is_among 32 c refl (omega (arith, h.1))
    ∙ and_from (nat_le 1 c && nat_le c 31) (not (c == 16)) (and_from (nat_le 1 c) (nat_le c 31) (le-leb 1 c h.0) (le-leb c 31 h.1)) (not_from_false (c == 16) (ne_eqb c 16 h.2))

in_flat : (p : Outgoing → Bool) (f : ℕ → List Outgoing) (c : ℕ) (cs : List ℕ) → list_any (λ k. k == c) cs ≡ true → list_any p (f c) ≡ true → list_any p (flat_map f cs) ≡ true
in_flat p f c [] h q = absurd (false≢true h)
in_flat p f c (k ∷ cs) h q = list_any-append p (f k) (flat_map f cs) ∙ either (k == c) refl h (λ r. in_flat p f c cs r q)
  where
    either : (b : Bool) → (k == c) ≡ b → (b || list_any (λ n. n == c) cs) ≡ true → (list_any (λ n. n == c) cs ≡ true → list_any p (flat_map f cs) ≡ true) → (list_any p (f k) || list_any p (flat_map f cs)) ≡ true
    either true e h' g = or_left (list_any p (f k)) (list_any p (flat_map f cs)) (subst (λ n. list_any p (f n) ≡ true) (sym (eqb-true k c e)) q)
    either false e h' g = or_right (list_any p (f k)) (list_any p (flat_map f cs)) (g h')

cons_has : (p : Outgoing → Bool) (said : Option Outgoing) (rest : List Outgoing) (o : Outgoing) → said ≡ Some o → p o ≡ true → list_any p (cons_some said rest) ≡ true
cons_has p None rest o q h = absurd (false≢true (ap is_some q))
cons_has p (Some x) rest o q h = or_left (p x) (list_any p rest) (subst (λ (s : Option Outgoing). OfSaid (λ y. p y ≡ true) s) (sym q) h)

cons_rest : (p : Outgoing → Bool) (said : Option Outgoing) (rest : List Outgoing) → list_any p rest ≡ true → list_any p (cons_some said rest) ≡ true
cons_rest p None rest h = h
cons_rest p (Some x) rest h = or_right (p x) (list_any p rest) h

said_has : (p : Outgoing → Bool) (d : Day) (c : ℕ) (es : List Entry) (i : ℕ) (o : Outgoing) → (entry_at es i).channel ≡ c → (second_in Up d (entry_at es i)).said ≡ Some o → p o ≡ true → list_any p (said_on d c es) ≡ true
said_has p d c [] i o on q h = absurd (false≢true (ap is_some q))
said_has p d c (e ∷ es) zero o on q h = by_cases (e.channel == c) _ _ (λ (os : List Outgoing). list_any p os ≡ true) (λ _. cons_has p (second_in Up d e).said (said_on d c es) o q h) (λ off. absurd (false≢true (sym off ∙ eq-eqb e.channel c on)))
said_has p d c (e ∷ es) (suc i) o on q h = by_cases (e.channel == c) _ _ (λ (os : List Outgoing). list_any p os ≡ true) (λ _. cons_rest p (second_in Up d e).said (said_on d c es) (said_has p d c es i o on q h)) (λ _. said_has p d c es i o on q h)

some_in : (xs : List Outgoing) (said : Option Outgoing) → ((o : Outgoing) → said ≡ Some o → IsIn xs o) → OfSaid (IsIn xs) said
some_in xs None f = tt
some_in xs (Some o) f = f o refl

pub is_sent : (d : Day) (i : ℕ) → IsChannel (entry_at d.entries i).channel → OfSaid (IsIn (ticked d).sent) (second_in Up d (entry_at d.entries i)).said
is_sent d i on = some_in (ticked d).sent (second_in Up d (entry_at d.entries i)).said
    (λ o q p h. in_flat p (λ c. said_on d c d.entries) (entry_at d.entries i).channel every_channel (every_has (entry_at d.entries i).channel on)
    (said_has p d (entry_at d.entries i).channel d.entries i o refl q h))

-- ---- each booking

over_outward : (r : ℕ) (sent far_sent : List Outgoing) (a : Activity) (t : ℕ) → OutwardStanding r sent far_sent (over_at a t)
over_outward r sent far_sent Never t = tt
over_outward r sent far_sent a t = tt

-- a call that goes on; k says whether what came shows that the user has connected
pub goes_outward : (i : ℕ) (sent more far_sent : List Outgoing) (s : PlainNetCall) (k : Bool) (a : Activity) (t : ℕ) (reply said : Option Outgoing) (n : Next PlainNetCall) → OnNext (Goes s.reference s.channel s.origin s.state k reply) n → OutwardStanding (suc i) sent far_sent (OnCall s a)
    → (net_flag s.origin ≡ false → k ≡ true → list_any (shows (suc i)) far_sent ≡ true)
    → (is_calm (follow a t said n).standing ≡ true → net_flag s.origin ≡ false → list_any (clears (suc i)) more ≡ false) → OutwardStanding (suc i) (sent ++ more) far_sent (follow a t said n).standing
goes_outward i sent more far_sent s k a t reply said (Live c) g outward connected calm = λ f.
    let f' : net_flag s.origin ≡ false = ap net_flag (sym g.origin) ∙ f in
    let old = outward f' in
    record {
      known = has_more (sets_up (suc i)) sent more old.known;
      calm = λ q. has_none (clears (suc i)) sent more (old.calm (g.mild q).0) (calm (ap not q) f');
      active = λ q. talks (is_active s.state) k (is_proceeding s.state) (g.active q) old.proceeding old.active (connected f');
      proceeding = implied_false (is_proceeding c.state) (is_proceeding s.state) g.proceeding old.proceeding;
    }
  where
    talks : (x y z : Bool) → (x || (y || z)) ≡ true → z ≡ false → (x ≡ true → list_any (shows (suc i)) far_sent ≡ true) → (y ≡ true → list_any (shows (suc i)) far_sent ≡ true) → list_any (shows (suc i)) far_sent ≡ true
    talks true y z h q v w = v refl
    talks false true z h q v w = w refl
    talks false false z h q v w = absurd (true≢false (sym h ∙ q))
goes_outward i sent more far_sent s k a t reply said Over g outward connected calm = over_outward (suc i) (sent ++ more) far_sent a t
goes_outward i sent more far_sent s k a t reply said Broken g outward connected calm = over_outward (suc i) (sent ++ more) far_sent a t

abbrev OutwardAfter : ℕ → List Outgoing → List Outgoing → List Outgoing → Moved → Type 0
OutwardAfter i sent more far_sent m = OfSaid (IsIn more) m.said → (is_calm m.standing ≡ true → list_any (clears (suc i)) more ≡ false) → OutwardStanding (suc i) (sent ++ more) far_sent m.standing

waits_outward : (assigned : List (Option ℕ)) (i t : ℕ) (sent more far_sent : List Outgoing) (e : Entry) (back free : Bool) → Seat assigned i e → list_any (clears (suc i)) sent ≡ false → OutwardAfter i sent more far_sent (waits e t back free)
waits_outward assigned i t sent more far_sent e back free seat clean =
    by_cases (offers e t free) _ _ (OutwardAfter i sent more far_sent)
    (λ offered said calm f. record {
      known = has_new (sets_up (suc i)) sent more (said (sets_up (suc i)) (and_from ((e.reference == suc i) && true) true (and_from (e.reference == suc i) true (eq-eqb e.reference (suc i) seat.reference) refl) refl));
      calm = λ q. has_none (clears (suc i)) sent more clean (calm refl);
      active = λ q. absurd (false≢true q);
      proceeding = refl;
    })
    (λ _. by_cases (nat_le e.booking.end t) _ _ (OutwardAfter i sent more far_sent) (λ _ said calm. tt) (λ _ said calm. tt))

entry_outward : (assigned : List (Option ℕ)) (i t : ℕ) (sent more far_sent : List Outgoing) (e : Entry) (back free : Bool) (s : Standing) → (is_refused s ≡ false → Seat assigned i e) → (is_started s ≡ false → list_any (clears (suc i)) sent ≡ false) → OutwardStanding (suc i) sent far_sent s → OutwardAfter i sent more far_sent (second_at e t back free s)
entry_outward assigned i t sent more far_sent e back free Unoffered seat clean outward said calm = waits_outward assigned i t sent more far_sent e back free (seat refl) (clean refl) said calm
entry_outward assigned i t sent more far_sent e back free (OnCall c a) seat clean outward said calm =
    let step : Transition PlainNetCall = net_second c t e.booking.end in
    goes_outward i sent more far_sent c false a t step.reply step.reply step.next (second_goes c.reference c.channel c.origin t e.booking.end c.state) outward (λ _ k. absurd (false≢true k)) (λ q _. calm q)
entry_outward assigned i t sent more far_sent e back free s seat clean outward said calm = tt

seat_channel : (assigned : List (Option ℕ)) (d : Day) (i : ℕ) → Seats assigned d.entries → OfSaid (IsIn (ticked d).sent) (second_in Up d (entry_at d.entries i)).said
seat_channel assigned d i seats = decide (is_refused (entry_at d.entries i).standing) refl
  where
    silent : (e : Entry) (t : ℕ) (back free : Bool) (s : Standing) → is_refused s ≡ true → OfSaid (IsIn (ticked d).sent) (second_at e t back free s).said
    silent e t back free Refused q = tt
    silent e t back free s q = absurd (false≢true q)

    decide : (b : Bool) → is_refused (entry_at d.entries i).standing ≡ b → OfSaid (IsIn (ticked d).sent) (second_in Up d (entry_at d.entries i)).said
    decide true q = silent (entry_at d.entries i) (d.moment + 1) (is_back d) (is_free d (entry_at d.entries i).channel) (entry_at d.entries i).standing q
    decide false q = is_sent d i (seats i q).in_service

pub tick_standings : (assigned : List (Option ℕ)) (sent far_sent : List Outgoing) (d : Day) → Seats assigned d.entries → OutwardSents assigned d sent sent → AllByRecursion (SaidBy assigned sent (ticked d).day) (ticked d).sent → OutwardStandings sent far_sent d → OutwardStandings (sent ++ (ticked d).sent) far_sent (ticked d).day
tick_standings assigned sent far_sent d seats sents says standings i =
    let e = entry_at d.entries i in
    subst (OutwardStanding (suc i) (sent ++ (ticked d).sent) far_sent) (sym (after_at d i))
    (entry_outward assigned i (d.moment + 1) sent (ticked d).sent far_sent e (is_back d) (is_free d e.channel) e.standing (seats i) (never_cleared assigned sent d i sents) (standings i)
    (seat_channel assigned d i seats)
    (λ q. more_calm assigned sent (ticked d).sent (ticked d).day i (subst (λ s. is_calm s ≡ true) (sym (after_at d i)) q) says))

pub tick_seats : (assigned : List (Option ℕ)) (d : Day) → Seats assigned d.entries → Seats assigned (ticked d).day.entries
tick_seats assigned d seats i q =
    let e = entry_at d.entries i in
    let p : Seat assigned i e = seats i (second_refused (d.moment + 1) (is_back d) (is_free d e.channel) e e.standing (sym (ap is_refused (after_at d i)) ∙ q)) in
    subst (Seat assigned i) (sym (at_map d d.entries i)) (record { reference = p.reference; few = p.few; channel = p.channel; in_service = p.in_service; number = p.number })
