-- Many seconds without a link at once are as many one after another.
use Rattle.bx_events.specs.declared.rules.Rules.TheVariants.{Two, Three}
use Rattle.bx_events.specs.declared.rules.Rules.{Rules}
use Rattle.std.proofs.Common.{◌≡◌, ℕ, zero, suc, min, ◌+◌, ◌-◌, ◌≤◌, ◌<◌, ◌==◌, ◌&&◌, ◌||◌, not, Bool, true, false, List, [], ◌∷◌, map, replicate, Option, Some, None, arith, refl, sym, subst, ap, ap₂, ◌∙◌, inl, inr, nat_le, if◌then◌else◌, unwrap_or, is_some}
use Rattle.std.specs.List.{AllByRecursion, list_any}
use Rattle.std.proofs.lemmas.Bool.{leb-true, leb-false, le-leb, and_right, false≢true, false_from_ne_true, eqb-true, cases_lt}
use Rattle.bx_base.specs.Bookings.{Row}
use Rattle.bx_events.specs.Events.{WithoutLink}
use Rattle.bx_calls.specs.declared.transition.Transition.{Transition}
use Rattle.bx_calls.specs.PlainCalls.{PlainNetCall}
use Rattle.bx_calls.specs.declared.net_state.NetState.{NetState}
use Rattle.bx_calls.specs.declared.net_state.NetState.TheVariants.{CallPresent, IncomingCallProceeding, CallReceived, Enquiring, DisconnectIndication, ReleaseRequest}
use Rattle.bx_calls.specs.NetTable.{net_to, net_is_clearing, net_lost, net_later, net_unlinked, IsDueBy}
use Rattle.bx_day.specs.declared.entry.Activity.{Activity}
use Rattle.bx_day.specs.declared.entry.Activity.TheVariants.{Was}
use Rattle.bx_day.specs.declared.entry.Entry.{Entry}
use Rattle.bx_day.specs.declared.entry.Link.TheVariants.{Down}
use Rattle.bx_day.specs.declared.entry.Moved.{Moved}
use Rattle.bx_day.specs.declared.entry.Standing.{Standing}
use Rattle.bx_day.specs.declared.entry.Standing.TheVariants.{Unoffered, OnCall, Missed}
use Rattle.bx_day.specs.Day.{Day}
use Rattle.bx_day.specs.Moves.{activity_after, is_active, follows}
use Rattle.bx_day.specs.Ticks.{unlinked_at, after_in, breaks_in, maintained_in, passed_in, waits}
use Rattle.bx_day.specs.Outages.{without_link_by, live_day_after}
use Rattle.bx_day.specs.Invariant.{phase_of, PhaseFits, DueFits, ActivityFits, CallFits, EntryFits}
use Rattle.bx_day.specs.Outlasting.{unlinked_for, IsTimedBy, outlasted, outlasts}
use Rattle.bx_day.specs.Reading.{IsExchange}
use Rattle.bx_day.proofs.Once.{decide}
use Rattle.bx_day.proofs.Passing.{passed_stays}
use Rattle.bx_day.proofs.Quiet.{late, activity_stays}
use Rattle.bx_day.proofs.Tick.{by_cases, with_standing, offers}

-- ---- when a timer is due

due_most : (x due m : ℕ) → Some x ≡ Some due → x ≤ m → due ≤ m
due_most x due m is le = subst (λ (n : ℕ). n ≤ m) (ap (λ (o : Option ℕ). unwrap_or o 0) is) le

no_due : (due : ℕ) → None ≡ Some due → ⊥
no_due due is = false≢true (ap is_some is)

state_timed : (t : ℕ) (s : NetState) → DueFits t s → IsDueBy (t + 180) s
state_timed t (CallPresent again x) h due is = due_most x due (t + 180) is (omega (arith, h.1))
state_timed t (IncomingCallProceeding x) h due is = due_most x due (t + 180) is (omega (arith, h.1))
state_timed t (CallReceived x) h due is = due_most x due (t + 180) is (omega (arith, h.1))
state_timed t (Enquiring asked x) h due is = due_most x due (t + 180) is (omega (arith, h.1))
state_timed t (DisconnectIndication cause x) h due is = due_most x due (t + 180) is (omega (arith, h.1))
state_timed t (ReleaseRequest again cause x) h due is = due_most x due (t + 180) is (omega (arith, h.1))
state_timed t s h due is = absurd (no_due due is)

pub fits_timed : (t : ℕ) (e : Entry) (s : Standing) → EntryFits t (with_standing e s) → IsTimedBy (t + 180) s
fits_timed t e (OnCall c a) h = state_timed t c.state h.due
fits_timed t e s h = tt

-- ---- a call

ended_is : (rules : Rules) (n u end : ℕ) (c : PlainNetCall) → net_is_clearing c.state ≡ false → end ≤ u → net_unlinked rules n c u end ≡ net_to c None (DisconnectIndication 16 (u + 1))
ended_is rules n u end c runs over =
    ap (λ b. if not b && nat_le end u then net_to c None (DisconnectIndication 16 (u + 1)) else net_to c None (net_later rules n u c.state)) runs
    ∙ ap (λ b. if b then net_to c None (DisconnectIndication 16 (u + 1)) else net_to c None (net_later rules n u c.state)) (le-leb end u over)

going_is : (rules : Rules) (n u end : ℕ) (c : PlainNetCall) → u < end → net_unlinked rules n c u end ≡ net_to c None (net_later rules n u c.state)
going_is rules n u end c early = ap (λ b. if b then net_to c None (DisconnectIndication 16 (u + 1)) else net_to c None (net_later rules n u c.state)) (and_right (not (net_is_clearing c.state)) (nat_le end u) (late end u early))

clearing_is : (rules : Rules) (n u end : ℕ) (c : PlainNetCall) → net_is_clearing c.state ≡ true → net_unlinked rules n c u end ≡ net_to c None (net_later rules n u c.state)
clearing_is rules n u end c clears = ap (λ b. if not b && nat_le end u then net_to c None (DisconnectIndication 16 (u + 1)) else net_to c None (net_later rules n u c.state)) clears

-- one second or more
later_is : (rules : Rules) (n t : ℕ) (s : NetState) → (n == 0) ≡ false → net_later rules n t s ≡ net_lost rules n t s
later_is rules n t s some = ap (λ b. if b then s else net_lost rules n t s) some

later_none : (rules : Rules) (n t : ℕ) (s : NetState) → (n == 0) ≡ true → net_later rules n t s ≡ s
later_none rules n t s none = ap (λ b. if b then s else net_lost rules n t s) none

one_more : (n : ℕ) → (n + 1 == 0) ≡ false
one_more n = false_from_ne_true (n + 1 == 0) (λ e. let q : n + 1 ≡ 0 = eqb-true (n + 1) 0 e in omega (arith, q))

lost_more : (rules : Rules) (n t u : ℕ) (s : NetState) → net_lost rules n u (net_lost rules 1 t s) ≡ net_lost rules (n + 1) u s
lost_more Two n t u (IncomingCallProceeding due) = ap (λ x. IncomingCallProceeding x) (let q : due + 1 + n ≡ due + (n + 1) = omega arith in q)
lost_more Two n t u (CallReceived due) = ap (λ x. CallReceived x) (let q : due + 1 + n ≡ due + (n + 1) = omega arith in q)
lost_more Three n t u (IncomingCallProceeding due) = refl
lost_more Three n t u (CallReceived due) = refl
lost_more rules n t u s = refl

later_more : (rules : Rules) (n t u : ℕ) (s : NetState) → u ≡ t + 1 + n → net_later rules n u (net_later rules 1 (t + 1) s) ≡ net_later rules (n + 1) u s
later_more rules n t u s q = decide (n == 0)
    (λ none. let zero : n ≡ 0 = eqb-true n 0 none in
    later_none rules n u (net_later rules 1 (t + 1) s) none ∙ ap₂ (λ k m. net_later rules k m s) (let p : 1 ≡ n + 1 = omega (arith, zero) in p) (let p : t + 1 ≡ u = omega (arith, zero, q) in p))
    (λ some. later_is rules n u (net_later rules 1 (t + 1) s) some ∙ lost_more rules n (t + 1) u s ∙ sym (later_is rules (n + 1) u s (one_more n)))

later_disconnects : (rules : Rules) (n t u : ℕ) → u ≡ t + 1 + n → net_later rules n u (DisconnectIndication 16 (t + 1 + 1)) ≡ DisconnectIndication 16 (u + 1)
later_disconnects rules n t u q = decide (n == 0)
    (λ none. let zero : n ≡ 0 = eqb-true n 0 none in
    later_none rules n u (DisconnectIndication 16 (t + 1 + 1)) none ∙ ap (λ x. DisconnectIndication 16 x) (let p : t + 1 + 1 ≡ u + 1 = omega (arith, zero, q) in p))
    (λ some. later_is rules n u (DisconnectIndication 16 (t + 1 + 1)) some)

lost_clearing : (rules : Rules) (n t : ℕ) (s : NetState) → net_is_clearing (net_lost rules n t s) ≡ net_is_clearing s
lost_clearing rules n t (ReleaseRequest again cause due) = refl
lost_clearing Two n t (IncomingCallProceeding due) = refl
lost_clearing Three n t (IncomingCallProceeding due) = refl
lost_clearing Two n t (CallReceived due) = refl
lost_clearing Three n t (CallReceived due) = refl
lost_clearing rules n t s = refl

later_clearing : (rules : Rules) (n t : ℕ) (s : NetState) → net_is_clearing (net_later rules n t s) ≡ net_is_clearing s
later_clearing rules n t s = decide (n == 0) (λ none. ap net_is_clearing (later_none rules n t s none)) (λ some. ap net_is_clearing (later_is rules n t s some) ∙ lost_clearing rules n t s)

lost_active : (rules : Rules) (n t : ℕ) (s : NetState) → is_active (net_lost rules n t s) ≡ is_active s
lost_active rules n t (ReleaseRequest again cause due) = refl
lost_active Two n t (IncomingCallProceeding due) = refl
lost_active Three n t (IncomingCallProceeding due) = refl
lost_active Two n t (CallReceived due) = refl
lost_active Three n t (CallReceived due) = refl
lost_active rules n t s = refl

later_active : (rules : Rules) (n t : ℕ) (s : NetState) → is_active (net_later rules n t s) ≡ is_active s
later_active rules n t s = decide (n == 0) (λ none. ap is_active (later_none rules n t s none)) (λ some. ap is_active (later_is rules n t s some) ∙ lost_active rules n t s)

-- a call that is not being cleared runs
runs : (t : ℕ) (b : Row) (s : NetState) → PhaseFits t b (phase_of s) → net_is_clearing s ≡ false → t < b.end
runs t b (DisconnectIndication cause due) h q = absurd (false≢true (sym q))
runs t b (ReleaseRequest again cause due) h q = absurd (false≢true (sym q))
runs t b s h q = h.1

twice : (a : Activity) (t u : ℕ) → activity_after (activity_after a false t) false u ≡ activity_after a false t
twice (Was from until) t u = refl
twice a t u = refl

abbrev in_state : PlainNetCall → NetState → Activity → Standing
in_state c s a = OnCall (record c { state = s }) a

-- a call that goes on
stands : (rules : Rules) (n m t u : ℕ) (b : Row) (c : PlainNetCall) (a : Activity) → ActivityFits t b (phase_of c.state) a → (follows a u (net_to c None (net_later rules n m c.state))).standing ≡ in_state c (net_later rules n m c.state) a
stands rules n m t u b c a h = ap (λ x. in_state c (net_later rules n m c.state) (activity_after a x u)) (later_active rules n m c.state) ∙ ap (in_state c (net_later rules n m c.state)) (activity_stays t u b c.state a h)

-- n seconds after one
abbrev Then : Rules → ℕ → ℕ → Row → Activity → ℕ → Transition PlainNetCall → Standing
Then rules n u b a t step = outlasted rules n u b (follows a t step).standing

abbrev At : Row → Activity → Transition PlainNetCall → Standing
At b a step = (follows a b.end step).standing

call_clears : (rules : Rules) (n t u : ℕ) (e : Entry) (c : PlainNetCall) (a : Activity) → u ≡ t + 1 + n → ActivityFits t e.booking (phase_of c.state) a → net_is_clearing c.state ≡ true → Then rules n u e.booking a (t + 1) (net_unlinked rules 1 c (t + 1) e.booking.end) ≡ At e.booking a (net_unlinked rules (n + 1) c u e.booking.end)
call_clears rules n t u e c a q h clears =
    let b = e.booking in
    let c' : PlainNetCall = record c { state = net_later rules 1 (t + 1) c.state } in
    ap (Then rules n u b a (t + 1)) (clearing_is rules 1 (t + 1) b.end c clears)
    ∙ ap (outlasted rules n u b) (stands rules 1 (t + 1) t (t + 1) b c a h)
    ∙ ap (At b a) (clearing_is rules n u b.end c' (later_clearing rules 1 (t + 1) c.state ∙ clears))
    ∙ ap (λ s. At b a (net_to c None s)) (later_more rules n t u c.state q)
    ∙ ap (At b a) (sym (clearing_is rules (n + 1) u b.end c clears))

call_ends : (rules : Rules) (n t u : ℕ) (e : Entry) (c : PlainNetCall) (a : Activity) → u ≡ t + 1 + n → t + 1 ≡ e.booking.end → net_is_clearing c.state ≡ false → Then rules n u e.booking a (t + 1) (net_unlinked rules 1 c (t + 1) e.booking.end) ≡ At e.booking a (net_unlinked rules (n + 1) c u e.booking.end)
call_ends rules n t u e c a q now going =
    let b = e.booking in
    ap (Then rules n u b a (t + 1)) (ended_is rules 1 (t + 1) b.end c going (omega (arith, now)))
    ∙ ap (λ s. At b (activity_after a false (t + 1)) (net_to c None s)) (later_disconnects rules n t u q)
    ∙ ap (in_state c (DisconnectIndication 16 (u + 1))) (twice a (t + 1) b.end ∙ ap (activity_after a false) now)
    ∙ ap (At b a) (sym (ended_is rules (n + 1) u b.end c going (omega (arith, q, now))))

call_goes : (rules : Rules) (n t u : ℕ) (e : Entry) (c : PlainNetCall) (a : Activity) → u ≡ t + 1 + n → ActivityFits t e.booking (phase_of c.state) a → t + 1 < e.booking.end → net_is_clearing c.state ≡ false → Then rules n u e.booking a (t + 1) (net_unlinked rules 1 c (t + 1) e.booking.end) ≡ At e.booking a (net_unlinked rules (n + 1) c u e.booking.end)
call_goes rules n t u e c a q h early going =
    let b = e.booking in
    let c' : PlainNetCall = record c { state = net_later rules 1 (t + 1) c.state } in
    ap (Then rules n u b a (t + 1)) (going_is rules 1 (t + 1) b.end c early)
    ∙ ap (outlasted rules n u b) (stands rules 1 (t + 1) t (t + 1) b c a h)
    ∙ elim (cases_lt u b.end) [
      | inl runs ↦ ap (At b a) (going_is rules n u b.end c' runs) ∙ ap (λ s. At b a (net_to c None s)) (later_more rules n t u c.state q) ∙ ap (At b a) (sym (going_is rules (n + 1) u b.end c runs))
      | inr over ↦ ap (At b a) (ended_is rules n u b.end c' (later_clearing rules 1 (t + 1) c.state ∙ going) over) ∙ ap (At b a) (sym (ended_is rules (n + 1) u b.end c going over))
    ]

call_more : (rules : Rules) (n t u : ℕ) (e : Entry) (c : PlainNetCall) (a : Activity) → u ≡ t + 1 + n → CallFits t e c a → Then rules n u e.booking a (t + 1) (net_unlinked rules 1 c (t + 1) e.booking.end) ≡ At e.booking a (net_unlinked rules (n + 1) c u e.booking.end)
call_more rules n t u e c a q h =
    decide (net_is_clearing c.state) (λ clears. call_clears rules n t u e c a q h.activity clears)
    (λ going. let lt : t < e.booking.end = runs t e.booking c.state h.phase going in
    elim (cases_lt (t + 1) e.booking.end) [
      | inl early ↦ call_goes rules n t u e c a q h.activity early going
      | inr over ↦ call_ends rules n t u e c a q (omega (arith, lt, over)) going
    ])

call_none : (rules : Rules) (t : ℕ) (e : Entry) (c : PlainNetCall) (a : Activity) → CallFits t e c a → At e.booking a (net_unlinked rules 0 c t e.booking.end) ≡ OnCall c a
call_none rules t e c a h =
    let b = e.booking in
    ap (At b a) (decide (net_is_clearing c.state) (λ clears. clearing_is rules 0 t b.end c clears) (λ going. going_is rules 0 t b.end c (runs t b c.state h.phase going)))
    ∙ stands rules 0 t t b.end b c a h.activity ∙ ap (λ s. in_state c s a) (later_none rules 0 t c.state refl)

-- ---- a booking

wait_more : (rules : Rules) (n t u : ℕ) (e : Entry) → u ≡ t + 1 + n → outlasted rules n u e.booking (waits e (t + 1) false false).standing ≡ outlasted rules (n + 1) u e.booking Unoffered
wait_more rules n t u e q =
    let b = e.booking in
    let P : Moved → Type 0 = λ m. outlasted rules n u b m.standing ≡ outlasted rules (n + 1) u b Unoffered in
    by_cases (offers e (t + 1) false) _ _ P
    (λ offered. absurd (false≢true (sym (and_right _ false refl) ∙ offered)))
    (λ _. by_cases (nat_le b.end (t + 1)) _ _ P
    (λ over. let le : b.end ≤ t + 1 = leb-true b.end (t + 1) over in ap (λ x. if x then Missed else Unoffered) (sym (le-leb b.end u (omega (arith, le, q)))))
    (λ _. refl))

booking_more : (rules : Rules) (n t u : ℕ) (e : Entry) (s : Standing) → u ≡ t + 1 + n → EntryFits t (with_standing e s) → outlasted rules n u e.booking (unlinked_at rules e (t + 1) s).standing ≡ outlasted rules (n + 1) u e.booking s
booking_more rules n t u e (OnCall c a) q h = call_more rules n t u (with_standing e (OnCall c a)) c a q h
booking_more rules n t u e Unoffered q h = wait_more rules n t u e q
booking_more rules n t u e s q h = refl

booking_none : (rules : Rules) (t : ℕ) (e : Entry) (s : Standing) → EntryFits t (with_standing e s) → outlasted rules 0 t e.booking s ≡ s
booking_none rules t e (OnCall c a) h = call_none rules t (with_standing e (OnCall c a)) c a h
booking_none rules t e Unoffered h = ap (λ b. if b then Missed else Unoffered) (late e.booking.end t h)
booking_none rules t e s h = refl

-- no channel breaks without a link
waits_whole : (e : Entry) (t : ℕ) → (waits e t false false).broken ≡ false
waits_whole e t = by_cases (offers e t false) _ _ (λ (m : Moved). m.broken ≡ false) (λ _. refl) (λ _. by_cases (nat_le e.booking.end t) _ _ (λ (m : Moved). m.broken ≡ false) (λ _. refl) (λ _. refl))

booking_whole : (rules : Rules) (e : Entry) (t : ℕ) (s : Standing) → (unlinked_at rules e t s).broken ≡ false
booking_whole rules e t (OnCall c a) = by_cases (not (net_is_clearing c.state) && nat_le e.booking.end t) _ _ (λ (step : Transition PlainNetCall). (follows a t step).broken ≡ false) (λ _. refl) (λ _. refl)
booking_whole rules e t Unoffered = waits_whole e t
booking_whole rules e t s = refl

-- ---- a day

none_break : (rules : Rules) (d : Day) (c : ℕ) (es : List Entry) → list_any (breaks_in (Down rules) d c) es ≡ false
none_break rules d c [] = refl
none_break rules d c (e ∷ es) = ap₂ (λ x y. x && (e.channel == c) || y) (booking_whole rules e (d.moment + 1) e.standing) (none_break rules d c es)

still_maintained : (rules : Rules) (d : Day) (c : ℕ) (bs : List Bool) → maintained_in (Down rules) d c bs ≡ bs
still_maintained rules d c [] = refl
still_maintained rules d c (b ∷ bs) = ap₂ (λ x xs. x ∷ xs) (ap (λ x. b || x) (none_break rules d c d.entries) ∙ or_false b) (still_maintained rules d (c + 1) bs)
  where
    or_false : (x : Bool) → (x || false) ≡ x
    or_false true = refl
    or_false false = refl

unlinked_some : (n m before : ℕ) → unlinked_for (n + 1) m before ≡ m + (n + 1) + 1
unlinked_some n m before = ap (λ b. if b then before else m + (n + 1) + 1) (one_more n)

unlinked_more : (n m before : ℕ) → unlinked_for n (m + 1) (m + 2) ≡ unlinked_for (n + 1) m before
unlinked_more n m before = decide (n == 0)
    (λ none. let zero : n ≡ 0 = eqb-true n 0 none in
    ap (λ b. if b then m + 2 else m + 1 + n + 1) none ∙ (let q : m + 2 ≡ m + (n + 1) + 1 = omega (arith, zero) in q) ∙ sym (unlinked_some n m before))
    (λ some. ap (λ b. if b then m + 2 else m + 1 + n + 1) some ∙ (let q : m + 1 + n + 1 ≡ m + (n + 1) + 1 = omega arith in q) ∙ sym (unlinked_some n m before))

abbrev pub outlasts_day : Rules → ℕ → Day → Day
outlasts_day rules n d = record { moment = d.moment + n; unlinked = unlinked_for n d.moment d.unlinked; entries = map (outlasts rules n (d.moment + n)) d.entries; maintenance = d.maintenance }

entries_more : (rules : Rules) (n u : ℕ) (d : Day) (es : List Entry) → u ≡ d.moment + 1 + n → AllByRecursion (EntryFits d.moment) es → map (outlasts rules n u) (map (after_in (Down rules) d) es) ≡ map (outlasts rules (n + 1) u) es
entries_more rules n u d [] q h = refl
entries_more rules n u d (e ∷ es) q h = ap₂ (λ s xs. with_standing e s ∷ xs) (booking_more rules n d.moment u e e.standing q h.0) (entries_more rules n u d es q h.1)

entries_none : (rules : Rules) (t : ℕ) (es : List Entry) → AllByRecursion (EntryFits t) es → map (outlasts rules 0 t) es ≡ es
entries_none rules t [] h = refl
entries_none rules t (e ∷ es) h = ap₂ (λ s xs. with_standing e s ∷ xs) (booking_none rules t e e.standing h.0) (entries_none rules t es h.1)

day_none : (rules : Rules) (d : Day) → IsExchange d → outlasts_day rules 0 d ≡ d
day_none rules d h =
    ap (λ t. record { moment = t; unlinked = d.unlinked; entries = map (outlasts rules 0 t) d.entries; maintenance = d.maintenance }) (let q : d.moment + 0 ≡ d.moment = omega arith in q)
    ∙ ap (λ es. record { moment = d.moment; unlinked = d.unlinked; entries = es; maintenance = d.maintenance }) (entries_none rules d.moment d.entries h.day.each)

day_more : (rules : Rules) (n : ℕ) (d : Day) → IsExchange d → outlasts_day rules n (passed_in (Down rules) d).day ≡ outlasts_day rules (n + 1) d
day_more rules n d h =
    let u = d.moment + (n + 1) in
    let q : d.moment + 1 + n ≡ u = omega arith in
    ap₂ (λ t l. record { moment = t; unlinked = l; entries = map (outlasts rules n t) (map (after_in (Down rules) d) d.entries); maintenance = maintained_in (Down rules) d 0 d.maintenance }) q (unlinked_more n d.moment d.unlinked)
    ∙ ap₂ (λ es ms. record { moment = u; unlinked = unlinked_for (n + 1) d.moment d.unlinked; entries = es; maintenance = ms }) (entries_more rules n u d d.entries (sym q) h.day.each) (still_maintained rules d 0 d.maintenance)

without_is : (rules : Rules) (d : Day) (b : Bool) → nat_le 300000 d.moment ≡ b → without_link_by rules d ≡ (if b then d else (passed_in (Down rules) d).day)
without_is rules d b is = ap (λ x. if x then d else (passed_in (Down rules) d).day) is

abbrev pub seconds_left : ℕ → Day → ℕ
seconds_left k d = min k (300000 - d.moment)

pub skipped : (rules : Rules) (k : ℕ) (d : Day) → IsExchange d → outlasts_day rules (seconds_left k d) d ≡ live_day_after (replicate k (WithoutLink rules)) d
skipped rules zero d h = ap (λ n. outlasts_day rules n d) (let q : min 0 (300000 - d.moment) ≡ 0 = omega arith in q) ∙ day_none rules d h
skipped rules (suc k) d h =
    decide (nat_le 300000 d.moment)
    (λ over. let le : 300000 ≤ d.moment = leb-true 300000 d.moment over in
    ap (λ n. outlasts_day rules n d) (let q : min (suc k) (300000 - d.moment) ≡ min k (300000 - d.moment) = omega (arith, le) in q)
    ∙ skipped rules k d h ∙ ap (live_day_after (replicate k (WithoutLink rules))) (sym (without_is rules d true over)))
    (λ runs. let early : d.moment < 300000 = leb-false 300000 d.moment runs in
    let next : Day = (passed_in (Down rules) d).day in
    ap (λ n. outlasts_day rules n d) (let q : min (suc k) (300000 - d.moment) ≡ min k (300000 - (d.moment + 1)) + 1 = omega (arith, early) in q)
    ∙ sym (day_more rules (seconds_left k next) d h) ∙ skipped rules k next (passed_stays (Down rules) d early h) ∙ ap (live_day_after (replicate k (WithoutLink rules))) (sym (without_is rules d false runs)))

-- ---- the code of one booking

pub call_unlinked : (rules : Rules) (latest t end : ℕ) (e : Entry) (s : Standing) (c : PlainNetCall) (a : Activity) (step : Transition PlainNetCall) (m : Moved) → s ≡ OnCall c a → end ≡ e.booking.end → ((most : ℕ) → IsDueBy most c.state → most + 1 ≤ 4294967295 → step ≡ net_unlinked rules 1 c t end) → m ≡ follows a t step → IsTimedBy latest s → latest + 1 ≤ 4294967295 → m ≡ unlinked_at rules e t s
call_unlinked rules latest t end e s c a step m is at steps follow timed room =
    subst (λ (x : Standing). IsTimedBy latest x → m ≡ unlinked_at rules e t x) (sym is) (λ due. follow ∙ ap (follows a t) (steps latest due room) ∙ ap (λ x. follows a t (net_unlinked rules 1 c t x)) at) timed

pub call_outlasted : (rules : Rules) (latest n t end : ℕ) (b : Row) (s : Standing) (c : PlainNetCall) (a : Activity) (step : Transition PlainNetCall) (m : Moved) → s ≡ OnCall c a → end ≡ b.end → ((most : ℕ) → IsDueBy most c.state → most + n ≤ 4294967295 → step ≡ net_unlinked rules n c t end) → m ≡ follows a end step → IsTimedBy latest s → latest + n ≤ 4294967295 → m.standing ≡ outlasted rules n t b s
call_outlasted rules latest n t end b s c a step m is at steps follow timed room =
    subst (λ (x : Standing). IsTimedBy latest x → m.standing ≡ outlasted rules n t b x) (sym is) (λ due. ap (λ (x : Moved). x.standing) (follow ∙ ap (follows a end) (steps latest due room) ∙ ap (λ x. follows a x (net_unlinked rules n c t x)) at)) timed
