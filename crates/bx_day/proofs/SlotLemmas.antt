-- What the slots of the channels say of the day.
use Rattle.std.proofs.Common.{◌≡◌, ◌≢◌, ℕ, min, ◌+◌, ◌≤◌, ◌<◌, ◌==◌, ◌&&◌, ◌||◌, Bool, true, false, List, length, Option, Some, None, arith, refl, sym, subst, ap, ◌∙◌, inl, inr, slice_index_or}
use Rattle.std.specs.Prelude.{is_some, IfSome}
use Rattle.std.specs.List.{position}
use Rattle.std.specs.Option.{unwrap_or}
use Rattle.std.proofs.lemmas.Bool.{and_parts, and_from, true≢false, false≢true, eqb-true, eq-eqb, false_from_ne_true, cases_eq, cases_lt}
use Rattle.std.proofs.lemmas.List.{get_or_default}
use Rattle.bx_channels.specs.ChannelNumbers.{IsChannel}
use Rattle.bx_calls.specs.Said.{Said}
use Rattle.bx_channels.specs.Marks.{is_marked}
use Rattle.bx_day.specs.Day.{Day, is_live, is_held, is_free, is_unoffered, holds, entry_at, no_entry}
use Rattle.bx_day.specs.Receipts.{is_open, opens, names, names_call}
use Rattle.bx_day.specs.Invariant.{EntryFits, StandingFits, is_refused}
use Rattle.bx_day.specs.Reading.{IsExchange, Seated}
use Rattle.bx_day.specs.Slots.{slot_at, waits_on, IsLiveOn, IsWaitingOn}
use Rattle.bx_day.specs.SlotSteps.{earlier}
use Rattle.bx_day.specs.declared.entry.Entry.{Entry}
use Rattle.bx_day.specs.declared.entry.Standing.{Standing}
use Rattle.bx_day.specs.declared.entry.Standing.TheVariants.{Refused, Unoffered, OnCall}
use Rattle.bx_day.proofs.Indices.{index_found, index_none}
use Rattle.bx_day.proofs.Once.{each_at, none≢some}
use Rattle.bx_day.proofs.Receive.{open_parts}
use Rattle.bx_day.proofs.Received.{held_index}
use Rattle.bx_day.specs.Passing.{AreBlocked}
use Rattle.bx_day.proofs.Tick.{runs_at}

pub some_is : (a b : ℕ) → Some a ≡ Some b → a ≡ b
some_is a b e = ap (λ (o : Option ℕ). unwrap_or o 0) e

pub holds_parts : (c : ℕ) (e : Entry) → holds c e ≡ true → (is_live e.standing ≡ true) × (e.channel ≡ c)
holds_parts c e h = let p = and_parts (is_live e.standing) (e.channel == c) h in (p.0, eqb-true e.channel c p.1)

pub holds_from : (c : ℕ) (e : Entry) → is_live e.standing ≡ true → e.channel ≡ c → holds c e ≡ true
holds_from c e live on = and_from (is_live e.standing) (e.channel == c) live (eq-eqb e.channel c on)

pub waits_parts : (c : ℕ) (e : Entry) → waits_on c e ≡ true → (is_unoffered e.standing ≡ true) × (e.channel ≡ c)
waits_parts c e h = let p = and_parts (is_unoffered e.standing) (e.channel == c) h in (p.0, eqb-true e.channel c p.1)

pub waits_from : (c : ℕ) (e : Entry) → is_unoffered e.standing ≡ true → e.channel ≡ c → waits_on c e ≡ true
waits_from c e waits on = and_from (is_unoffered e.standing) (e.channel == c) waits (eq-eqb e.channel c on)

-- ---- who holds a channel

pub holder_is : (es : List Entry) (c : ℕ) (o : Option ℕ) → IsLiveOn es c o → o ≡ position (holds c) es
holder_is es c None h = sym (index_none (holds c) es (λ k lt. false_from_ne_true (holds c (entry_at es k)) (λ t. none≢some k (h.each k lt t))))
holder_is es c (Some i) h =
    let p = h.there i refl in
    sym (index_found (holds c) es i p.0 p.1 (λ k less. false_from_ne_true (holds c (entry_at es k)) (λ t.
    let same : i ≡ k = some_is i k (h.each k (omega (arith, less, p.0)) t) in absurd (omega (arith, less, same)))))

-- the channels below c that are held, and those in maintenance
pub record IsBlockedBelow (d : Day) (c : ℕ) (blocked : List Bool) : Type 0 where
  pub done : (k : ℕ) → k < c → is_marked blocked k ≡ (is_held d.entries k || is_marked d.maintenance k)
  pub left : (k : ℕ) → c ≤ k → is_marked blocked k ≡ is_marked d.maintenance k

-- ---- the first of the live bookings that pass a test, channel by channel

abbrev pub IsFirstBelow : (Entry → Bool) → List Entry → ℕ → Option ℕ → Type 0
IsFirstBelow test es n None = (k : ℕ) → k < length es → (entry_at es k).channel < n → test (entry_at es k) ≡ false
IsFirstBelow test es n (Some i) = (i < length es) × (test (entry_at es i) ≡ true) × ((k : ℕ) → k < i → (entry_at es k).channel < n → test (entry_at es k) ≡ false)

below_next : (P : Type 0) (a n : ℕ) → a < n + 1 → (a < n → P) → (a ≡ n → P) → P
below_next P a n lt f g = elim (cases_lt a n) [ inl less ↦ f less | inr le ↦ g (omega (arith, le, lt)) ]

-- none of channel n passes
pub first_stays : (test : Entry → Bool) (es : List Entry) (n : ℕ) (o : Option ℕ) → ((k : ℕ) → k < length es → (entry_at es k).channel ≡ n → test (entry_at es k) ≡ false) → IsFirstBelow test es n o → IsFirstBelow test es (n + 1) o
first_stays test es n None none h = λ k lt on. below_next (test (entry_at es k) ≡ false) (entry_at es k).channel n on (h k lt) (none k lt)
first_stays test es n (Some i) none h = (h.0, h.1, λ k less on. below_next (test (entry_at es k) ≡ false) (entry_at es k).channel n on (h.2 k less) (none k (let lt : i < length es = h.0 in omega (arith, less, lt))))

-- just that of this index does
pub first_found : (test : Entry → Bool) (es : List Entry) (n j : ℕ) (o : Option ℕ) → j < length es → test (entry_at es j) ≡ true → ((k : ℕ) → k < length es → (entry_at es k).channel ≡ n → test (entry_at es k) ≡ true → k ≡ j) → IsFirstBelow test es n o → IsFirstBelow test es (n + 1) (Some (earlier o j))
first_found test es n j None inside here only h = (inside, here, λ k less on. below_next (test (entry_at es k) ≡ false) (entry_at es k).channel n on (h k (omega (arith, less, inside))) (λ same. false_from_ne_true (test (entry_at es k)) (λ t. let e : k ≡ j = only k (omega (arith, less, inside)) same t in absurd (omega (arith, e, less)))))
first_found test es n j (Some i) inside here only h = elim (cases_lt i j) [
  | inl less ↦
      let is : min i j ≡ i = omega arith in
      subst (λ (x : ℕ). IsFirstBelow test es (n + 1) (Some x)) (sym is) (h.0, h.1, λ k before on. below_next (test (entry_at es k) ≡ false) (entry_at es k).channel n on (h.2 k before) (λ same. false_from_ne_true (test (entry_at es k)) (λ t. let e : k ≡ j = only k (omega (arith, before, less, inside)) same t in absurd (omega (arith, e, before, less)))))
  | inr le ↦
      let is : min i j ≡ j = omega arith in
      subst (λ (x : ℕ). IsFirstBelow test es (n + 1) (Some x)) (sym is) (inside, here, λ k before on. below_next (test (entry_at es k) ≡ false) (entry_at es k).channel n on (h.2 k (omega (arith, before, le))) (λ same. false_from_ne_true (test (entry_at es k)) (λ t. let e : k ≡ j = only k (omega (arith, before, inside)) same t in absurd (omega (arith, e, before)))))
]

-- of all channels
pub first_is : (test : Entry → Bool) (es : List Entry) (n : ℕ) (o : Option ℕ) → ((k : ℕ) → k < length es → test (entry_at es k) ≡ true → (entry_at es k).channel < n) → IsFirstBelow test es n o → o ≡ position test es
first_is test es n None all h = sym (index_none test es (λ k lt. false_from_ne_true (test (entry_at es k)) (λ t. true≢false (sym t ∙ h k lt (all k lt t)))))
first_is test es n (Some i) all h = sym (index_found test es i h.0 h.1 (λ k less. let lt : i < length es = h.0 in false_from_ne_true (test (entry_at es k)) (λ t. true≢false (sym t ∙ h.2 k less (all k (omega (arith, less, lt)) t)))))

pub first_inside : (test : Entry → Bool) (es : List Entry) (n : ℕ) (o : Option ℕ) → IsFirstBelow test es n o → IfSome o (λ i. i < length es)
first_inside test es n None h = tt
first_inside test es n (Some i) h = h.0

named_call : (m : Said) (s : Standing) → names_call m s ≡ true → is_live s ≡ true
named_call m (OnCall call a) h = refl
named_call m s h = absurd (false≢true h)

-- one that is named is live
pub named_live : (m : Said) (e : Entry) → names m e ≡ true → is_live e.standing ≡ true
named_live m e h = named_call m e.standing h

pub live_accepted : (s : Standing) → is_live s ≡ true → is_refused s ≡ false
live_accepted Refused h = absurd (false≢true h)
live_accepted s h = refl

pub live_seated : (d : Day) (k : ℕ) → IsExchange d → k < length d.entries → is_live (entry_at d.entries k).standing ≡ true → IsChannel (entry_at d.entries k).channel
live_seated d k h lt live = (each_at Seated d.entries k lt h.seated).channel (live_accepted (entry_at d.entries k).standing live)

-- ---- the bookings that wait

waiting_fits : (t : ℕ) (e : Entry) (s : Standing) → StandingFits t e s → is_unoffered s ≡ true → t < e.booking.end
waiting_fits t e Unoffered h waits = h
waiting_fits t e s h waits = absurd (false≢true waits)

pub ends_later : (d : Day) (k : ℕ) → IsExchange d → k < length d.entries → is_unoffered (entry_at d.entries k).standing ≡ true → d.moment < (entry_at d.entries k).booking.end
ends_later d k h lt waits = let e = entry_at d.entries k in waiting_fits d.moment e e.standing (each_at (EntryFits d.moment) d.entries k lt h.day.each) waits

open_waits : (d : Day) (e : Entry) → is_open d e ≡ true → is_unoffered e.standing ≡ true
open_waits d e h =
    let p = and_parts (is_unoffered e.standing && e.booking.inward && _) (is_free d e.channel) h in
    let q = and_parts (is_unoffered e.standing && e.booking.inward) _ p.0 in
    (and_parts (is_unoffered e.standing) e.booking.inward q.0).0

-- one that may be called is the first that waits on its channel
pub open_first : (d : Day) (k r : ℕ) (o : Option ℕ) → IsExchange d → k < length d.entries → is_open d (entry_at d.entries k) ≡ true → IsWaitingOn d.entries (entry_at d.entries k).channel o → o ≡ Some r → k ≡ r
open_first d k r o h lt opened w is =
    let e = entry_at d.entries k in
    let waits : waits_on e.channel e ≡ true = waits_from e.channel e (open_waits d e opened) refl in
    let p = w.there r is in
    let going : d.moment < (entry_at d.entries r).booking.end = ends_later d r h p.0 (waits_parts e.channel (entry_at d.entries r) p.1).0 in
    let begun = (runs_at e.booking d.moment (open_parts d e opened).runs).0 in
    w.first k r lt waits is (omega (arith, going, begun))

pub open_there : (d : Day) (k : ℕ) (o : Option ℕ) → k < length d.entries → is_open d (entry_at d.entries k) ≡ true → IsWaitingOn d.entries (entry_at d.entries k).channel o → is_some o ≡ true
open_there d k o lt opened w = let e = entry_at d.entries k in w.each k lt (waits_from e.channel e (open_waits d e opened) refl)

opens_parts : (d : Day) (c : ℕ) (e : Entry) → opens d c e ≡ true → (is_open d e ≡ true) × (e.channel ≡ c)
opens_parts d c e h = let p = and_parts (is_open d e) (e.channel == c) h in (p.0, eqb-true e.channel c p.1)

-- where nothing waits, nothing opens
pub nothing_opens : (d : Day) (c : ℕ) (o : Option ℕ) → o ≡ None → IsWaitingOn d.entries c o → position (opens d c) d.entries ≡ None
nothing_opens d c o none w = index_none (opens d c) d.entries (λ k lt. false_from_ne_true (opens d c (entry_at d.entries k)) (λ t.
    let p = opens_parts d c (entry_at d.entries k) t in
    false≢true (ap is_some (sym none) ∙ open_there d k o lt p.0 (subst (λ n. IsWaitingOn d.entries n o) (sym p.1) w))))

-- the first that waits opens, or none does
pub first_opens : (d : Day) (c r : ℕ) (o : Option ℕ) → IsExchange d → o ≡ Some r → IsWaitingOn d.entries c o → opens d c (entry_at d.entries r) ≡ true → position (opens d c) d.entries ≡ Some r
first_opens d c r o h is w opened =
    let inside = (w.there r is).0 in
    index_found (opens d c) d.entries r inside opened (λ k less. false_from_ne_true (opens d c (entry_at d.entries k)) (λ t.
    let p = opens_parts d c (entry_at d.entries k) t in
    let same : k ≡ r = open_first d k r o h (omega (arith, less, inside)) p.0 (subst (λ n. IsWaitingOn d.entries n o) (sym p.1) w) is in
    absurd (omega (arith, same, less))))

pub first_closed : (d : Day) (c r : ℕ) (o : Option ℕ) → IsExchange d → o ≡ Some r → IsWaitingOn d.entries c o → opens d c (entry_at d.entries r) ≡ false → position (opens d c) d.entries ≡ None
first_closed d c r o h is w closed =
    index_none (opens d c) d.entries (λ k lt. false_from_ne_true (opens d c (entry_at d.entries k)) (λ t.
    let p = opens_parts d c (entry_at d.entries k) t in
    let same : k ≡ r = open_first d k r o h lt p.0 (subst (λ n. IsWaitingOn d.entries n o) (sym p.1) w) is in
    true≢false (sym t ∙ subst (λ n. opens d c (entry_at d.entries n) ≡ false) (sym same) closed)))

-- a slot as the code reads it
pub slot_is : (slots : List (Option ℕ)) (n : ℕ) (d o : Option ℕ) → n < length slots → slice_index_or slots n d ≡ o → slot_at slots n ≡ o
slot_is slots n d o lt is = get_or_default slots n None d lt ∙ is

none_there : (o : Option ℕ) → ((i : ℕ) → o ≡ Some i → ⊥) → o ≡ None
none_there None never = refl
none_there (Some i) never = absurd (never i refl)

pub slot_none : (slots : List (Option ℕ)) (n : ℕ) (d : Option ℕ) → n < length slots → ((i : ℕ) → slice_index_or slots n d ≡ Some i → ⊥) → slot_at slots n ≡ None
slot_none slots n d lt never = none_there (slot_at slots n) (λ i is. never i (get_or_default slots n d None lt ∙ is))

-- a booking as the code reads it
pub entry_is : (es : List Entry) (d : Day) (i : ℕ) (e : Entry) → es ≡ d.entries → i < length es → e ≡ slice_index_or es i e → e ≡ entry_at d.entries i
entry_is es d i e same lt is = is ∙ get_or_default es i e no_entry lt ∙ ap (λ (xs : List Entry). entry_at xs i) same

pub named_there : (m : Said) (es : List Entry) (n k : ℕ) (o : Option ℕ) → IsLiveOn es n o → k < length es → (entry_at es k).channel ≡ n → names m (entry_at es k) ≡ true → o ≡ Some k
named_there m es n k o h lt on named = h.each k lt (holds_from n (entry_at es k) (named_live m (entry_at es k) named) on)

-- ---- the channels that are held

pub held_is : (es : List Entry) (c : ℕ) (o : Option ℕ) → IsLiveOn es c o → is_held es c ≡ is_some o
held_is es c o h = held_index c es ∙ ap is_some (sym (holder_is es c o h))

-- what is no channel is not held
pub unheld : (d : Day) (c : ℕ) → IsExchange d → (IsChannel c → ⊥) → is_held d.entries c ≡ false
unheld d c h never = held_index c d.entries ∙ ap is_some (index_none (holds c) d.entries (λ k lt. false_from_ne_true (holds c (entry_at d.entries k)) (λ t.
    let p = holds_parts c (entry_at d.entries k) t in
    never (subst IsChannel p.1 (live_seated d k h lt p.0)))))

pub none_blocked : (d : Day) → IsExchange d → IsBlockedBelow d 1 d.maintenance
none_blocked d h = record {
  done = λ k lt. sym (ap (λ b. b || is_marked d.maintenance k) (unheld d k h (λ is. absurd (let low : 1 ≤ k = is.0 in omega (arith, low, lt)))));
  left = λ k le. refl;
}

pub blocked_held : (d : Day) (n k : ℕ) (b b' : List Bool) → k ≡ n → is_held d.entries n ≡ true → is_marked b' k ≡ true → ((m : ℕ) → m ≢ k → is_marked b' m ≡ is_marked b m) → IsBlockedBelow d n b → IsBlockedBelow d (n + 1) b'
blocked_held d n k b b' same held added others h = record {
  done = λ m lt. elim (cases_eq m n) [
    | inl here ↦ ap (is_marked b') (here ∙ sym same) ∙ added ∙ sym (ap (λ x. x || is_marked d.maintenance m) (ap (is_held d.entries) here ∙ held))
    | inr other ↦ others m (λ q. other (q ∙ same)) ∙ h.done m (omega (arith, lt, other))
  ];
  left = λ m le. others m (λ q. absurd (omega (arith, q, same, le))) ∙ h.left m (omega (arith, le));
}

pub blocked_free : (d : Day) (n : ℕ) (b : List Bool) → is_held d.entries n ≡ false → IsBlockedBelow d n b → IsBlockedBelow d (n + 1) b
blocked_free d n b free h = record {
  done = λ m lt. elim (cases_eq m n) [
    | inl here ↦ h.left m (omega (arith, here)) ∙ sym (ap (λ x. x || is_marked d.maintenance m) (ap (is_held d.entries) here ∙ free))
    | inr other ↦ h.done m (omega (arith, lt, other))
  ];
  left = λ m le. h.left m (omega (arith, le));
}

pub all_blocked : (d : Day) (n : ℕ) (b : List Bool) → IsExchange d → 32 ≤ n → IsBlockedBelow d n b → AreBlocked d b
all_blocked d n b h all s c = elim (cases_lt c n) [
  | inl less ↦ s.done c less
  | inr le ↦ s.left c le ∙ sym (ap (λ x. x || is_marked d.maintenance c) (unheld d c h (λ is. absurd (let high : c ≤ 31 = is.1 in omega (arith, high, le, all)))))
]
