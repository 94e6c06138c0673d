-- The slots of the channels after seconds without a link: what is live stays so, and what waits is found anew.
use Rattle.bx_events.specs.declared.rules.Rules.{Rules}
use Rattle.std.proofs.Common.{◌≡◌, ℕ, zero, suc, min, ◌+◌, ◌-◌, ◌≤◌, ◌<◌, ◌==◌, ◌&&◌, not, Bool, true, false, List, [], ◌∷◌, length, map, take, drop, ◌++◌, replicate, Option, Some, None, arith, refl, sym, subst, ap, ap₂, ◌∙◌, inl, inr, nat_le, slice_set, length-set, if◌then◌else◌}
use Rattle.std.specs.Prelude.{is_some}
use Rattle.std.proofs.lemmas.Bool.{leb-false, ltb-true, ltb-false, false≢true, true≢false, cases_eq, cases_lt}
use Rattle.std.proofs.lemmas.List.{get_or-set_same, get_or-set_other}
use Rattle.bx_base.specs.Bookings.{Row}
use Rattle.bx_events.specs.Events.{WithoutLink}
use Rattle.bx_calls.specs.declared.transition.Transition.{Transition}
use Rattle.bx_calls.specs.PlainCalls.{PlainNetCall}
use Rattle.bx_calls.specs.NetTable.{net_is_clearing}
use Rattle.bx_day.specs.Day.{Day, is_live, is_unoffered, holds, entry_at, no_entry}
use Rattle.bx_day.specs.Moves.{follows}
use Rattle.bx_day.specs.Outages.{without_link_by, live_day_after}
use Rattle.bx_day.specs.Invariant.{Pairs, Apart, EntryFits, is_refused}
use Rattle.bx_day.specs.Outlasting.{unlinked_for, outlasted, outlasts, IsTimedBy, AreOutlasting, starts_before, with_waiting, IsEarliestOn, AreEarliest}
use Rattle.bx_day.specs.Passing.{day_of}
use Rattle.bx_day.specs.Reading.{IsExchange}
use Rattle.bx_day.specs.Slots.{slot_at, waits_on, IsWaitingOn, AreSlots, IsIndexed}
use Rattle.bx_day.specs.declared.entry.Entry.{Entry}
use Rattle.bx_day.specs.declared.entry.Link.TheVariants.{Down}
use Rattle.bx_day.specs.declared.entry.Standing.{Standing}
use Rattle.bx_day.specs.declared.entry.Standing.TheVariants.{Unoffered, OnCall, Missed}
use Rattle.bx_day.proofs.IndexLemmas.{indexed_now}
use Rattle.bx_day.proofs.LinkLemmas.{none_in, ends_first}
use Rattle.bx_day.proofs.Once.{decide, each_at}
use Rattle.bx_day.proofs.Outlasting.{fits_timed, outlasts_day, seconds_left, skipped}
use Rattle.bx_day.proofs.Passing.{refilled, passed_stays}
use Rattle.bx_day.proofs.Quiet.{late}
use Rattle.bx_day.proofs.Seats.{SameSeats, after_kept, ordered_kept}
use Rattle.bx_day.proofs.SlotLemmas.{some_is, waits_parts, waits_from}
use Rattle.bx_day.proofs.Tick.{by_cases}
use Rattle.bx_day.proofs.Receive.{unoffered_accepted}

-- ---- the slots as each booking is looked at

pub nothing_seen : (es : List Entry) → AreEarliest es 0 (replicate 32 None)
nothing_seen es = record {
  size = refl;
  each = λ c. record {
    there = λ i is. absurd (false≢true (ap is_some (sym (none_in 32 c) ∙ is)));
    each = λ i lt waits. absurd (omega (arith, lt));
    least = λ i r lt waits is. absurd (omega (arith, lt));
  };
}

-- the booking of an index below n + 1
last_of : {P : Type 0} (i n : ℕ) → i < n + 1 → (i < n → P) → (i ≡ n → P) → P
last_of i n lt f g = elim (cases_lt i n) [ inl less ↦ f less | inr le ↦ g (omega (arith, le, lt)) ]

-- one that does not wait on the channel
earliest_skips : (es : List Entry) (n c : ℕ) (o : Option ℕ) → (waits_on c (entry_at es n) ≡ true → ⊥) → IsEarliestOn es n c o → IsEarliestOn es (n + 1) c o
earliest_skips es n c o never h = record {
  there = λ i is. (let p = h.there i is in (omega (arith, p.0), p.1));
  each = λ i lt waits. last_of i n lt (λ less. h.each i less waits) (λ same. absurd (never (subst (λ k. waits_on c (entry_at es k) ≡ true) same waits)));
  least = λ i r lt waits is. last_of i n lt (λ less. h.least i r less waits is) (λ same. absurd (never (subst (λ k. waits_on c (entry_at es k) ≡ true) same waits)));
}

-- one that starts no earlier than that of the slot
earliest_stays : (es : List Entry) (n c q : ℕ) (o : Option ℕ) → o ≡ Some q → (entry_at es q).booking.start ≤ (entry_at es n).booking.start → IsEarliestOn es n c o → IsEarliestOn es (n + 1) c o
earliest_stays es n c q o slot le h = record {
  there = λ i is. (let p = h.there i is in (omega (arith, p.0), p.1));
  each = λ i lt waits. ap is_some slot;
  least = λ i r lt waits is. last_of i n lt (λ less. h.least i r less waits is) (λ same.
      let there : q ≡ r = some_is q r (sym slot ∙ is) in
      subst (λ k. (entry_at es k).booking.start ≤ (entry_at es i).booking.start) there (subst (λ k. (entry_at es q).booking.start ≤ (entry_at es k).booking.start) (sym same) le));
}

no_later : (es : List Entry) (n i c : ℕ) (o : Option ℕ) → i < n → waits_on c (entry_at es i) ≡ true → ((q : ℕ) → o ≡ Some q → (entry_at es n).booking.start ≤ (entry_at es q).booking.start) → IsEarliestOn es n c o → (entry_at es n).booking.start ≤ (entry_at es i).booking.start
no_later es n i c None lt waits le h = absurd (false≢true (h.each i lt waits))
no_later es n i c (Some q) lt waits le h = let one = le q refl in let two = h.least i q lt waits refl in omega (arith, one, two)

-- one that starts before it
earliest_is : (es : List Entry) (n c : ℕ) (o : Option ℕ) → waits_on c (entry_at es n) ≡ true → ((q : ℕ) → o ≡ Some q → (entry_at es n).booking.start ≤ (entry_at es q).booking.start) → IsEarliestOn es n c o → IsEarliestOn es (n + 1) c (Some n)
earliest_is es n c o here le h = record {
  there = λ i is. (let same : n ≡ i = some_is n i is in (omega (arith, same), subst (λ k. waits_on c (entry_at es k) ≡ true) same here));
  each = λ i lt waits. refl;
  least = λ i r lt waits is. (
      let same : n ≡ r = some_is n r is in
      subst (λ k. (entry_at es k).booking.start ≤ (entry_at es i).booking.start) same (last_of i n lt (λ less. no_later es n i c o less waits le h) (λ at. let q : (entry_at es n).booking.start ≡ (entry_at es i).booking.start = ap (λ k. (entry_at es k).booking.start) (sym at) in omega (arith, q))));
}

before_all : (es : List Entry) (n : ℕ) (o : Option ℕ) → starts_before es n o ≡ true → (q : ℕ) → o ≡ Some q → (entry_at es n).booking.start ≤ (entry_at es q).booking.start
before_all es n None first q is = absurd (false≢true (ap is_some is))
before_all es n (Some r) first q is =
    let lt : (entry_at es n).booking.start < (entry_at es r).booking.start = ltb-true (entry_at es n).booking.start (entry_at es r).booking.start first in
    let le : (entry_at es n).booking.start ≤ (entry_at es r).booking.start = omega (arith, lt) in
    subst (λ k. (entry_at es n).booking.start ≤ (entry_at es k).booking.start) (some_is r q is) le

not_before : (es : List Entry) (n c : ℕ) (o : Option ℕ) → starts_before es n o ≡ false → IsEarliestOn es n c o → IsEarliestOn es (n + 1) c o
not_before es n c None later h = absurd (true≢false later)
not_before es n c (Some r) later h = earliest_stays es n c r (Some r) refl (ltb-false (entry_at es n).booking.start (entry_at es r).booking.start later) h

left_as : (es : List Entry) (n : ℕ) (slots : List (Option ℕ)) → ((c : ℕ) → IsEarliestOn es (n + 1) c (slot_at slots c)) → AreEarliest es n slots → AreEarliest es (n + 1) slots
left_as es n slots each h = record { size = h.size; each = each }

pub one_seen : (es : List Entry) (n : ℕ) (slots : List (Option ℕ)) → (is_unoffered (entry_at es n).standing ≡ true → (entry_at es n).channel < 32) → AreEarliest es n slots → AreEarliest es (n + 1) (with_waiting es n slots)
one_seen es n slots high h =
    let e = entry_at es n in
    let k = e.channel in
    let o = slot_at slots k in
    by_cases (is_unoffered e.standing && starts_before es n o) _ _ (AreEarliest es (n + 1))
    (λ both.
    let p = and_both (is_unoffered e.standing) (starts_before es n o) both in
    let room : k < length slots = omega (arith, h.size, high p.0) in
    record {
      size = length-set slots k (Some n) ∙ h.size;
      each = λ c. elim (cases_eq c k) [
        | inl here ↦ subst (λ m. IsEarliestOn es (n + 1) m (slot_at (slice_set slots k (Some n)) m)) (sym here) (subst (IsEarliestOn es (n + 1) k) (sym (get_or-set_same slots k (Some n) None room)) (earliest_is es n k o (waits_here e p.0) (before_all es n o p.1) (h.each k)))
        | inr other ↦ subst (IsEarliestOn es (n + 1) c) (sym (get_or-set_other slots k c (Some n) None other)) (earliest_skips es n c (slot_at slots c) (λ waits. other (sym (waits_parts c e waits).1)) (h.each c))
      ];
    })
    (λ not_both. left_as es n slots (λ c. elim (cases_eq c k) [
      | inl here ↦ decide (is_unoffered e.standing)
          (λ waits. subst (λ m. IsEarliestOn es (n + 1) m (slot_at slots m)) (sym here) (not_before es n k o (second_false (is_unoffered e.standing) (starts_before es n o) waits not_both) (h.each k)))
          (λ idle. earliest_skips es n c (slot_at slots c) (λ waits. true≢false (sym (waits_parts c e waits).0 ∙ idle)) (h.each c))
      | inr other ↦ earliest_skips es n c (slot_at slots c) (λ waits. other (sym (waits_parts c e waits).1)) (h.each c)
    ]) h)
  where
    and_both : (x y : Bool) → (x && y) ≡ true → (x ≡ true) × (y ≡ true)
    and_both true y q = (refl, q)
    and_both false y q = absurd (false≢true q)

    second_false : (x y : Bool) → x ≡ true → (x && y) ≡ false → y ≡ false
    second_false true y q r = r
    second_false false y q r = absurd (false≢true q)

    waits_here : (e : Entry) → is_unoffered e.standing ≡ true → waits_on e.channel e ≡ true
    waits_here e waits = waits_from e.channel e waits refl

-- the one that starts first is the first
pub earliest_waits : (es : List Entry) (c : ℕ) (o : Option ℕ) → Pairs Apart es → ((i : ℕ) → i < length es → (entry_at es i).booking.start < (entry_at es i).booking.end) → IsEarliestOn es (length es) c o → IsWaitingOn es c o
earliest_waits es c o apart ordered h = record {
  there = h.there;
  each = h.each;
  first = λ i r lt waits is less. elim (cases_eq i r) [
    | inl same ↦ same
    | inr other ↦ (
        let p = h.there r is in
        let x = waits_parts c (entry_at es i) waits in
        let y = waits_parts c (entry_at es r) p.1 in
        let past = ends_first es r i apart p.0 lt (λ q. other (sym q)) (unoffered_accepted (entry_at es r).standing y.0) (unoffered_accepted (entry_at es i).standing x.0) (y.1 ∙ sym x.1) (h.least i r lt waits is) (ordered i lt) in
        absurd (omega (arith, past, less)))
  ];
}

-- ---- what becomes of the bookings

call_live : (rules : Rules) (n u : ℕ) (b : Row) (s : Standing) → is_live (outlasted rules n u b s) ≡ is_live s
call_live rules n u b (OnCall c a) = by_cases (not (net_is_clearing c.state) && nat_le b.end u) _ _ (λ (step : Transition PlainNetCall). is_live (follows a b.end step).standing ≡ true) (λ _. refl) (λ _. refl)
call_live rules n u b Unoffered = by_cases (nat_le b.end u) _ _ (λ (s : Standing). is_live s ≡ false) (λ _. refl) (λ _. refl)
call_live rules n u b s = refl

same_refused : (rules : Rules) (n u : ℕ) (b : Row) (s : Standing) → is_refused (outlasted rules n u b s) ≡ is_refused s
same_refused rules n u b (OnCall c a) = by_cases (not (net_is_clearing c.state) && nat_le b.end u) _ _ (λ (step : Transition PlainNetCall). is_refused (follows a b.end step).standing ≡ false) (λ _. refl) (λ _. refl)
same_refused rules n u b Unoffered = by_cases (nat_le b.end u) _ _ (λ (s : Standing). is_refused s ≡ false) (λ _. refl) (λ _. refl)
same_refused rules n u b s = refl

still_waits : (rules : Rules) (n u : ℕ) (b : Row) (s : Standing) → u < b.end → is_unoffered s ≡ true → is_unoffered (outlasted rules n u b s) ≡ true
still_waits rules n u b Unoffered early h = ap (λ x. is_unoffered (if x then Missed else Unoffered)) (late b.end u early)
still_waits rules n u b s early h = absurd (false≢true h)

at_outlasts : (rules : Rules) (n u : ℕ) (es : List Entry) (i : ℕ) → entry_at (map (outlasts rules n u) es) i ≡ outlasts rules n u (entry_at es i)
at_outlasts rules n u [] i = refl
at_outlasts rules n u (e ∷ es) zero = refl
at_outlasts rules n u (e ∷ es) (suc i) = at_outlasts rules n u es i

outlasts_size : (rules : Rules) (n u : ℕ) (es : List Entry) → length (map (outlasts rules n u) es) ≡ length es
outlasts_size rules n u [] = refl
outlasts_size rules n u (e ∷ es) = ap suc (outlasts_size rules n u es)

outlasts_seats : (rules : Rules) (n u : ℕ) (es : List Entry) → SameSeats es (map (outlasts rules n u) es)
outlasts_seats rules n u es = record {
  size = sym (outlasts_size rules n u es);
  booking = λ i. sym (ap (λ (e : Entry). e.booking) (at_outlasts rules n u es i));
  channel = λ i. sym (ap (λ (e : Entry). e.channel) (at_outlasts rules n u es i));
  refused = λ i. sym (ap (λ (e : Entry). is_refused e.standing) (at_outlasts rules n u es i) ∙ same_refused rules n u (entry_at es i).booking (entry_at es i).standing);
}

holds_same : (rules : Rules) (n u c : ℕ) (es : List Entry) (i : ℕ) → holds c (entry_at (map (outlasts rules n u) es) i) ≡ holds c (entry_at es i)
holds_same rules n u c es i = ap (holds c) (at_outlasts rules n u es i) ∙ ap (λ x. x && ((entry_at es i).channel == c)) (call_live rules n u (entry_at es i).booking (entry_at es i).standing)

-- ---- the slots

pub outlasted_slots : (rules : Rules) (n : ℕ) (d : Day) (live waiting following waiting' : List (Option ℕ)) → IsExchange (outlasts_day rules n d) → AreSlots d live waiting following → AreEarliest (outlasts_day rules n d).entries (length (outlasts_day rules n d).entries) waiting' → AreSlots (outlasts_day rules n d) live waiting' following
outlasted_slots rules n d live waiting following waiting' h s anew =
    let u = d.moment + n in
    let es = d.entries in
    let now = map (outlasts rules n u) es in
    let seats = outlasts_seats rules n u es in
    let ordered = ordered_kept es now seats s.ordered in
    let back : (i : ℕ) → i < length now → i < length es = λ i lt. subst (λ m. i < m) (sym seats.size) lt in
    record {
      live_size = s.live_size;
      waiting_size = anew.size;
      after_size = s.after_size ∙ seats.size;
      lives = λ c. record {
        there = λ i is. (let p = (s.lives c).there i is in (subst (λ m. i < m) seats.size p.0, holds_same rules n u c es i ∙ p.1));
        each = λ i lt held. (s.lives c).each i (back i lt) (sym (holds_same rules n u c es i) ∙ held);
      };
      waits = λ c. earliest_waits now c (slot_at waiting' c) h.day.pairs ordered (anew.each c);
      followings = λ r lt accepted. after_kept es now r (slot_at following r) seats (s.followings r (back r lt) (seats.refused r ∙ accepted));
      ahead = λ i lt accepted early. (
          let b = (entry_at es i).booking in
          let start : (entry_at now i).booking.start ≡ b.start = ap (λ (x : Row). x.start) (sym (seats.booking i)) in
          let own : b.start < b.end = s.ordered i (back i lt) in
          ap (λ (e : Entry). is_unoffered e.standing) (at_outlasts rules n u es i) ∙ still_waits rules n u b (entry_at es i).standing (omega (arith, early, start, own)) (s.ahead i (back i lt) (seats.refused i ∙ accepted) (omega (arith, early, start))));
      ordered = ordered;
    }

-- ---- the code

same_entries : (es fs : List Entry) → length es ≡ length fs → ((i : ℕ) → i < length fs → entry_at es i ≡ entry_at fs i) → es ≡ fs
same_entries [] [] size h = refl
same_entries (e ∷ es) (f ∷ fs) size h = ap₂ (λ x xs. x ∷ xs) (h 0 (omega arith)) (same_entries es fs (omega (arith, size)) (λ i lt. h (suc i) (omega (arith, lt))))
same_entries es fs size h = absurd (omega (arith, size))

-- what the pass over the bookings leaves
pub all_outlasted : (rules : Rules) (n : ℕ) (d : Day) (now : List Entry) → n ≤ 300000 → IsExchange d → AreOutlasting rules n (d.moment + n) (length d.entries) d.entries now → now ≡ map (outlasts rules n (d.moment + n)) d.entries
all_outlasted rules n d now few h p = same_entries now (map (outlasts rules n (d.moment + n)) d.entries) (p.size ∙ sym (outlasts_size rules n (d.moment + n) d.entries)) (λ i lt.
    let inside : i < length d.entries = omega (arith, lt, outlasts_size rules n (d.moment + n) d.entries) in
    let e = entry_at d.entries i in
    p.done i (d.moment + 180) inside inside (fits_timed d.moment e e.standing (each_at (EntryFits d.moment) d.entries i inside h.day.each)) (omega (arith, few, h.moment)) ∙ sym (at_outlasts rules n (d.moment + n) d.entries i))

lives_on : (rules : Rules) (k : ℕ) (d : Day) → IsExchange d → IsExchange (live_day_after (replicate k (WithoutLink rules)) d)
lives_on rules zero d h = h
lives_on rules (suc k) d h = lives_on rules k (without_link_by rules d) (by_cases (nat_le 300000 d.moment) _ _ IsExchange (λ _. h) (λ early. passed_stays (Down rules) d (leb-false 300000 d.moment early) h))

pub outlasted_exchange : (rules : Rules) (k : ℕ) (d : Day) → IsExchange d → IsExchange (outlasts_day rules (seconds_left k d) d)
outlasted_exchange rules k d h = subst IsExchange (sym (skipped rules k d h)) (lives_on rules k d h)

-- one more booking of the pass
pub one_outlasts : (rules : Rules) (n t k : ℕ) (before now : List Entry) (e e' : Entry) (s : Standing) → k < length now → e ≡ entry_at now k → e' ≡ entry_at now k → ((latest : ℕ) → IsTimedBy latest e.standing → latest + n ≤ 4294967295 → s ≡ outlasted rules n t e.booking e.standing) → AreOutlasting rules n t k before now → AreOutlasting rules n t (k + 1) before (slice_set now k (record e' { standing = s }))
one_outlasts rules n t k before now e e' s lt here again becomes h = record {
  size = length-set now k (record e' { standing = s }) ∙ h.size;
  done = λ i latest low inside timed room. last_of i k low
      (λ less. get_or-set_other now k i (record e' { standing = s }) no_entry (λ q. absurd (omega (arith, q, less))) ∙ h.done i latest less inside timed room)
      (λ same.
      let first : e ≡ entry_at before k = here ∙ h.left k (omega arith) in
      let second : e' ≡ entry_at before k = again ∙ h.left k (omega arith) in
      let due : IsTimedBy latest (entry_at before k).standing = subst (λ j. IsTimedBy latest (entry_at before j).standing) same timed in
      let now_is : s ≡ outlasted rules n t (entry_at before k).booking (entry_at before k).standing = becomes latest (subst (λ (x : Entry). IsTimedBy latest x.standing) (sym first) due) room ∙ ap (λ (x : Entry). outlasted rules n t x.booking x.standing) first in
      ap (λ j. entry_at (slice_set now k (record e' { standing = s })) j) same ∙ get_or-set_same now k (record e' { standing = s }) no_entry lt ∙ ap₂ (λ (x : Entry) y. record x { standing = y }) second now_is ∙ sym (ap (λ j. outlasts rules n t (entry_at before j)) same));
  left = λ i high. get_or-set_other now k i (record e' { standing = s }) no_entry (λ q. absurd (omega (arith, q, high))) ∙ h.left i (omega (arith, high));
}

-- the day that is left, from its parts
pub skip_day : (rules : Rules) (k n before len l : ℕ) (d : Day) (seen new : List Entry) → l ≡ unlinked_for n before d.unlinked → before ≡ d.moment → n ≡ min k (300000 - before) → IsExchange d → seen ≡ d.entries → len ≡ length d.entries → AreOutlasting rules n (before + n) (length seen) seen new → day_of (before + n) l (take len (new ++ drop (length new) d.entries)) d.maintenance ≡ outlasts_day rules (seconds_left k d) d
skip_day rules k n before len l d seen new last at left h same size p =
    let number : n ≡ seconds_left k d = left ∙ ap (λ m. min k (300000 - m)) at in
    let few : n ≤ 300000 = omega (arith, left) in
    let q : AreOutlasting rules n (d.moment + n) (length d.entries) d.entries new = subst (λ (es : List Entry). AreOutlasting rules n (d.moment + n) (length es) es new) same (subst (λ m. AreOutlasting rules n (m + n) (length seen) seen new) at p) in
    let entries : take len (new ++ drop (length new) d.entries) ≡ map (outlasts rules n (d.moment + n)) d.entries = refilled len new d.entries q.size size ∙ all_outlasted rules n d new few h q in
    ap (λ x. day_of (before + n) x (take len (new ++ drop (length new) d.entries)) d.maintenance) last ∙ ap₂ (λ m es. day_of (m + n) (unlinked_for n m d.unlinked) es d.maintenance) at entries ∙ ap (λ m. outlasts_day rules m d) number

pub skip_index : (rules : Rules) (k : ℕ) (d now : Day) (live waiting following waiting' : List (Option ℕ)) → IsExchange d → now ≡ outlasts_day rules (seconds_left k d) d → AreSlots d live waiting following → AreEarliest now.entries (length now.entries) waiting' → IsIndexed now live waiting' following 0
skip_index rules k d now live waiting following waiting' h is s anew =
    let whole = outlasted_exchange rules k d h in
    subst (λ (x : Day). IsIndexed x live waiting' following 0) (sym is)
    (indexed_now (outlasts_day rules (seconds_left k d) d) live waiting' following whole (outlasted_slots rules (seconds_left k d) d live waiting following waiting' whole s (subst (λ (x : Day). AreEarliest x.entries (length x.entries) waiting') is anew)))
