-- The live booking of a channel after a tick.
use Rattle.std.proofs.Common.{◌≡◌, ℕ, zero, suc, ◌<◌, true, false, List, [], ◌∷◌, length, Option, Some, None, arith, refl, sym, subst, ap, ◌∙◌, inl, inr, ◌⊎◌, if◌then◌else◌}
use Rattle.std.specs.Prelude.{is_some}
use Rattle.std.proofs.lemmas.Bool.{true≢false, false≢true, cases_eq, cases_lt}
use Rattle.bx_day.specs.Day.{Day, is_live, holds, entry_at}
use Rattle.bx_day.specs.Invariant.{Apart, Pairs}
use Rattle.bx_day.specs.Slots.{IsLiveOn}
use Rattle.bx_day.specs.SlotSteps.{is_live_at, live_slot_of}
use Rattle.bx_day.specs.declared.entry.Entry.{Entry}
use Rattle.bx_day.specs.declared.entry.Moved.{Moved}
use Rattle.bx_day.proofs.Law.{at_map_in}
use Rattle.bx_day.proofs.Once.{decide, each_at}
use Rattle.bx_day.proofs.Quiet.{all_at as all_from}
use Rattle.bx_day.proofs.SlotLemmas.{some_is, holds_parts, holds_from, waits_parts}
use Rattle.bx_day.proofs.Tick.{pairs_apart, all_hold}
use Rattle.bx_day.proofs.Turns.{After, second_seats, IsNone, IsTurn, others_stay}
use Rattle.bx_day.specs.declared.entry.Link.{Link}

-- ---- the live one after the tick

pub pairs_at : (R : Entry → Entry → Type 0) (es : List Entry) (i j : ℕ) → i < j → j < length es → Pairs R es → R (entry_at es i) (entry_at es j)
pairs_at R [] i j lt inside h = absurd (omega (arith, inside))
pairs_at R (e ∷ es) zero zero lt inside h = absurd (omega (arith, lt))
pairs_at R (e ∷ es) zero (suc j) lt inside h = each_at (R e) es j (omega (arith, inside)) h.0
pairs_at R (e ∷ es) (suc i) zero lt inside h = absurd (omega (arith, lt))
pairs_at R (e ∷ es) (suc i) (suc j) lt inside h = pairs_at R es i j (omega (arith, lt)) (omega (arith, inside)) h.1

pub pairs_from : (R : Entry → Entry → Type 0) (es : List Entry) → ((i j : ℕ) → i < j → j < length es → R (entry_at es i) (entry_at es j)) → Pairs R es
pairs_from R [] h = tt
pairs_from R (e ∷ es) h = (all_from (R e) es (λ j lt. h 0 (suc j) (omega arith) (omega (arith, lt))), pairs_from R es (λ i j less lt. h (suc i) (suc j) (omega (arith, less)) (omega (arith, lt))))

-- no channel has two live bookings
pub live_once : (es : List Entry) (c i j : ℕ) → Pairs Apart es → i < length es → j < length es → holds c (entry_at es i) ≡ true → holds c (entry_at es j) ≡ true → i ≡ j
live_once es c i j ps li lj hi hj =
    let p = holds_parts c (entry_at es i) hi in
    let q = holds_parts c (entry_at es j) hj in
    elim (cases_lt i j) [
      | inl less ↦ absurd ((pairs_at Apart es i j less lj ps).live p.0 q.0 (p.1 ∙ sym q.1))
      | inr le ↦ elim (cases_eq i j) [
        | inl same ↦ same
        | inr other ↦ absurd ((pairs_at Apart es j i (omega (arith, le, other)) li ps).live q.0 p.0 (q.1 ∙ sym p.1))
      ]
    ]

abbrev pub OnChannel : List Entry → ℕ → Option ℕ → Type 0
OnChannel es c o = (i : ℕ) → o ≡ Some i → (i < length es) × ((entry_at es i).channel ≡ c)

-- the live one among some of a channel's bookings
pub record Among (es : List Entry) (c : ℕ) (Q : ℕ → Type 0) (o : Option ℕ) : Type 0 where
  there : (i : ℕ) → o ≡ Some i → (i < length es) × (holds c (entry_at es i) ≡ true)
  each : (i : ℕ) → i < length es → holds c (entry_at es i) ≡ true → Q i → o ≡ Some i

pub none_among : (es : List Entry) (c : ℕ) → Among es c (λ i. ⊥) None
none_among es c = record { there = λ i is. absurd (false≢true (ap is_some is)); each = λ i lt h q. absurd q }

pub live_is : (es : List Entry) (c i : ℕ) (o : Option ℕ) → Pairs Apart es → OnChannel es c o → is_live_at es o ≡ true → i < length es → holds c (entry_at es i) ≡ true → o ≡ Some i
live_is es c i None ps on live lt h = absurd (false≢true live)
live_is es c i (Some j) ps on live lt h = let p = on j refl in ap (λ k. Some k) (live_once es c j i ps p.0 lt (holds_from c (entry_at es j) live p.1) h)

pub one_among : (es : List Entry) (c : ℕ) (Q : ℕ → Type 0) (o rest : Option ℕ) → Pairs Apart es → OnChannel es c o → Among es c Q rest → Among es c (λ i. (o ≡ Some i) ⊎ Q i) (if is_live_at es o then o else rest)
one_among es c Q o rest ps on h = decide (is_live_at es o)
    (λ live. subst (Among es c (λ i. (o ≡ Some i) ⊎ Q i)) (sym (ap (λ b. if b then o else rest) live)) (record {
      there = λ i is. (let p = on i is in (p.0, holds_from c (entry_at es i) (subst (λ x. is_live_at es x ≡ true) is live) p.1));
      each = λ i lt holding q. live_is es c i o ps on live lt holding;
    }))
    (λ idle. subst (Among es c (λ i. (o ≡ Some i) ⊎ Q i)) (sym (ap (λ b. if b then o else rest) idle)) (record {
      there = h.there;
      each = λ i lt holding q. elim q [
        | inl is ↦ absurd (true≢false (sym (holds_parts c (entry_at es i) holding).0 ∙ subst (λ x. is_live_at es x ≡ false) is idle))
        | inr more ↦ h.each i lt holding more
      ];
    }))

pub some_or_not : (o : Option ℕ) (i : ℕ) → (o ≡ Some i) ⊎ IsNone o i
some_or_not None i = inr (λ is. false≢true (ap is_some is))
some_or_not (Some j) i = elim (cases_eq j i) [ inl same ↦ inl (ap (λ k. Some k) same) | inr other ↦ inr (λ is. other (some_is j i is)) ]

pub second_on : (d : Day) (c : ℕ) (a w s u : Option ℕ) → IsTurn d c a w s u → OnChannel d.entries c s
second_on d c a None s u t i is = absurd (false≢true (ap is_some (sym (t.no_second refl) ∙ is)))
second_on d c a (Some r) s u t i is =
    let p = (t.second r refl).there i is in
    let q = t.waiting.there r refl in
    (p.inside, p.channel ∙ (waits_parts c (entry_at d.entries r) q.1).1)

pub on_after : (link : Link) (d : Day) (c : ℕ) (o : Option ℕ) → OnChannel d.entries c o → OnChannel (After link d) c o
on_after link d c o h i is = let p = h i is in let s = second_seats link d in (subst (λ n. i < n) s.size p.0, sym (s.channel i) ∙ p.1)

-- after a tick each live booking of the channel is one of the three
pub live_touched : (link : Link) (d : Day) (c i : ℕ) (a w s u : Option ℕ) → IsTurn d c a w s u → i < length (After link d) → holds c (entry_at (After link d) i) ≡ true → (a ≡ Some i) ⊎ ((w ≡ Some i) ⊎ ((s ≡ Some i) ⊎ ⊥))
live_touched link d c i a w s u t lt h =
    let seats = second_seats link d in
    let inside : i < length d.entries = subst (λ n. i < n) (sym seats.size) lt in
    let p = holds_parts c (entry_at (After link d) i) h in
    let on : (entry_at d.entries i).channel ≡ c = seats.channel i ∙ p.1 in
    elim (some_or_not a i) [
      | inl is ↦ inl is
      | inr na ↦ elim (some_or_not w i) [
        | inl is ↦ inr (inl is)
        | inr nw ↦ elim (some_or_not s i) [
          | inl is ↦ inr (inr (inl is))
          | inr ns ↦
              let stay = others_stay link d c i a w s u t inside on na nw ns in
              let live : is_live (entry_at d.entries i).standing ≡ true = ap (λ (m : Moved). is_live m.standing) (sym stay) ∙ ap (λ (e : Entry). is_live e.standing) (sym (at_map_in link d d.entries i)) ∙ p.0 in
              absurd (na (t.live.each i inside (holds_from c (entry_at d.entries i) live on)))
        ]
      ]
    ]

pub live_settled : (link : Link) (d : Day) (c : ℕ) (a w s u : Option ℕ) → IsTurn d c a w s u → IsLiveOn (After link d) c (live_slot_of (After link d) a w s)
live_settled link d c a w s u t =
    let ps : Pairs Apart (After link d) = pairs_apart link d d.entries (all_hold d.entries) t.exchange.day.pairs in
    let last = one_among (After link d) c (λ i. ⊥) s None ps (on_after link d c s (second_on d c a w s u t)) (none_among (After link d) c) in
    let more = one_among (After link d) c (λ i. (s ≡ Some i) ⊎ ⊥) w _ ps (on_after link d c w (λ i is. (let p = t.waiting.there i is in (p.0, (waits_parts c (entry_at d.entries i) p.1).1)))) last in
    let all = one_among (After link d) c (λ i. (w ≡ Some i) ⊎ ((s ≡ Some i) ⊎ ⊥)) a _ ps (on_after link d c a (λ i is. (let p = t.live.there i is in (p.0, (holds_parts c (entry_at d.entries i) p.1).1)))) more in
    record { there = all.there; each = λ i lt h. all.each i lt h (live_touched link d c i a w s u t lt h) }
