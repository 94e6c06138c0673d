-- A pass over the bookings of slots is a tick, where a tick does nothing to the others.
use Rattle.std.proofs.Common.{◌≡◌, ◌≢◌, ℕ, suc, ◌+◌, ◌≤◌, ◌<◌, ◌==◌, ◌&&◌, ◌||◌, Bool, true, false, List, [], ◌∷◌, map, length, Option, Some, None, arith, refl, sym, subst, ap, ap₂, ◌∙◌, inl, inr, slice_index_or, nat_lt, if◌then◌else◌}
use Rattle.std.specs.Prelude.{is_some}
use Rattle.std.specs.List.{list_any}
use Rattle.std.proofs.lemmas.Bool.{true≢false, false≢true, cases_eq, cases_lt, eqb-true, eq-eqb, and_parts, lt-ltb, ltb-true, false_from_ne_true}
use Rattle.bx_q931.specs.Outgoing.{Outgoing}
use Rattle.bx_calls.specs.Shared.{cons_some}
use Rattle.bx_channels.specs.Marks.{is_marked}
use Rattle.bx_day.specs.Day.{Day, is_unoffered, entry_at}
use Rattle.bx_day.specs.Ticks.{second_in, after_in, said_in, breaks_in, maintained_in}
use Rattle.bx_day.specs.Moves.{stays}
use Rattle.bx_day.specs.Passing.{is_slot, with_slots, Passed, AreTouched, IsSecond}
use Rattle.bx_day.specs.Reading.{IsExchange}
use Rattle.bx_day.specs.Slots.{slot_at, AreSlots}
use Rattle.bx_day.specs.SlotSteps.{follower}
use Rattle.bx_day.specs.declared.entry.Entry.{Entry}
use Rattle.bx_day.specs.declared.entry.Moved.{Moved}
use Rattle.bx_day.proofs.Law.{at_map_in}
use Rattle.bx_day.proofs.Once.{decide}
use Rattle.bx_day.proofs.Passing.{map_size, and_false, or_true}
use Rattle.bx_day.proofs.Turns.{IsTurn, others_stay}
use Rattle.bx_day.proofs.SettleLemmas.{beyond, turn_of}
use Rattle.bx_day.proofs.LiveTurns.{second_on}
use Rattle.bx_day.proofs.PutLemmas.{live_waits}
use Rattle.bx_day.proofs.SlotLemmas.{some_is, holds_parts, waits_parts, ends_later}
use Rattle.bx_day.proofs.SaidOnce.{none_said, maintained_size, maintained_at, same_set, any_there, none_there}
use Rattle.bx_day.proofs.TouchLemmas.{with_one, other_or}
use Rattle.bx_day.proofs.Quiet.{or_false}
use Rattle.bx_day.specs.declared.entry.Link.{Link}

-- ---- slot by slot

-- the bookings of the slots of the channels below n, and those before them
abbrev pub with_below : Day → List (Option ℕ) → (ℕ → Bool) → ℕ → ℕ → Bool
with_below d slots done n i = done i || (is_slot (slot_at slots (entry_at d.entries i).channel) i && nat_lt (entry_at d.entries i).channel n)

slot_true : (o : Option ℕ) (i : ℕ) → is_slot o i ≡ true → o ≡ Some i
slot_true None i h = absurd (false≢true h)
slot_true (Some j) i h = ap (λ k. Some k) (eqb-true j i h)

slot_false : (o : Option ℕ) (i : ℕ) → (o ≡ Some i → ⊥) → is_slot o i ≡ false
slot_false o i never = false_from_ne_true (is_slot o i) (λ h. never (slot_true o i h))

not_less : (a n : ℕ) → n ≤ a → nat_lt a n ≡ false
not_less a n le = false_from_ne_true (nat_lt a n) (λ h. (let lt : a < n = ltb-true a n h in absurd (omega (arith, lt, le))))

pub none_below : (d : Day) (slots : List (Option ℕ)) (done : ℕ → Bool) (i : ℕ) → with_below d slots done 0 i ≡ done i
none_below d slots done i = ap (λ b. done i || (is_slot (slot_at slots (entry_at d.entries i).channel) i && b)) (not_less (entry_at d.entries i).channel 0 (omega arith)) ∙ ap (λ b. done i || b) (and_false (is_slot (slot_at slots (entry_at d.entries i).channel) i)) ∙ or_false (done i)

-- below the next channel there is no other booking of a slot, but for the one in the slot of this channel
pub same_below : (d : Day) (slots : List (Option ℕ)) (done : ℕ → Bool) (n i : ℕ) → (slot_at slots n ≡ Some i → ⊥) → with_below d slots done (n + 1) i ≡ with_below d slots done n i
same_below d slots done n i never =
    let c = (entry_at d.entries i).channel in
    elim (cases_eq c n) [
      | inl same ↦
          let none : is_slot (slot_at slots c) i ≡ false = slot_false (slot_at slots c) i (λ is. never (ap (slot_at slots) (sym same) ∙ is)) in
          ap (λ b. done i || (b && nat_lt c (n + 1))) none ∙ sym (ap (λ b. done i || (b && nat_lt c n)) none)
      | inr other ↦ ap (λ b. done i || (is_slot (slot_at slots c) i && b)) (less_same c n other)
    ]
  where
    less_same : (c n : ℕ) → c ≢ n → nat_lt c (n + 1) ≡ nat_lt c n
    less_same c n other = elim (cases_lt c n) [
      | inl less ↦ lt-ltb c (n + 1) (omega (arith, less)) ∙ sym (lt-ltb c n less)
      | inr le ↦ not_less c (n + 1) (omega (arith, le, other)) ∙ sym (not_less c n le)
    ]

pub one_below : (d : Day) (slots : List (Option ℕ)) (done : ℕ → Bool) (n j i : ℕ) → slot_at slots n ≡ Some j → (entry_at d.entries j).channel ≡ n → with_below d slots done (n + 1) i ≡ with_one j (with_below d slots done n) i
one_below d slots done n j i is on = elim (cases_eq i j) [
  | inl same ↦ subst (λ k. with_below d slots done (n + 1) k ≡ with_one j (with_below d slots done n) k) (sym same) (
      let c = (entry_at d.entries j).channel in
      let slot : is_slot (slot_at slots c) j ≡ true = ap (λ k. is_slot (slot_at slots k) j) on ∙ ap (λ o. is_slot o j) is ∙ eq-eqb j j refl in
      let less : nat_lt c (n + 1) ≡ true = lt-ltb c (n + 1) (omega (arith, on)) in
      ap₂ (λ x y. done j || (x && y)) slot less ∙ or_true (done j) ∙ sym (ap (λ b. b || with_below d slots done n j) (eq-eqb j j refl)))
  | inr other ↦ same_below d slots done n i (λ there. other (some_is i j (sym there ∙ is))) ∙ sym (other_or i j (with_below d slots done n i) other)
]

pub undone_below : (d : Day) (slots : List (Option ℕ)) (done : ℕ → Bool) (n j : ℕ) → (entry_at d.entries j).channel ≡ n → done j ≡ false → with_below d slots done n j ≡ false
undone_below d slots done n j on undone =
    let c = (entry_at d.entries j).channel in
    ap₂ (λ x y. x || (is_slot (slot_at slots c) j && y)) undone (not_less c n (omega (arith, on))) ∙ and_false (is_slot (slot_at slots c) j)

pub all_below : (d : Day) (slots : List (Option ℕ)) (done : ℕ → Bool) (n i : ℕ) → length slots ≤ n → with_slots d slots done i ≡ with_below d slots done n i
all_below d slots done n i le =
    let c = (entry_at d.entries i).channel in
    elim (cases_lt c n) [
      | inl less ↦ ap (λ b. done i || b) (sym (and_true (is_slot (slot_at slots c) i)) ∙ ap (λ b. is_slot (slot_at slots c) i && b) (sym (lt-ltb c n less)))
      | inr late ↦ ap (λ o. done i || is_slot o i) (beyond slots c (omega (arith, le, late))) ∙ sym (ap (λ o. done i || (is_slot o i && nat_lt c n)) (beyond slots c (omega (arith, le, late))))
    ]
  where
    and_true : (b : Bool) → (b && true) ≡ b
    and_true true = refl
    and_true false = refl

-- ---- all that a tick may touch

same_entries : (xs ys : List Entry) → length xs ≡ length ys → ((i : ℕ) → i < length xs → entry_at xs i ≡ entry_at ys i) → xs ≡ ys
same_entries [] [] size h = refl
same_entries (x ∷ xs) (y ∷ ys) size h = ap₂ (λ e es. e ∷ es) (h 0 (omega arith)) (same_entries xs ys (omega (arith, size)) (λ i lt. h (suc i) (omega (arith, lt))))
same_entries xs ys size h = absurd (omega (arith, size))

pub all_passed : (link : Link) (d : Day) (done : ℕ → Bool) (es : List Entry) (ms : List Bool) (ss : List (Option Outgoing)) → IsExchange d → ((i : ℕ) → i < length d.entries → done i ≡ false → second_in link d (entry_at d.entries i) ≡ stays (entry_at d.entries i).standing) → Passed link d done es ms ss → IsSecond link d es ms ss
all_passed link d done es ms ss h others p = record {
  entries = same_entries es (map (after_in link d) d.entries) (p.size ∙ sym (map_size link d d.entries)) (λ i lt.
      let inside : i < length d.entries = omega (arith, lt, p.size) in
      let e = entry_at d.entries i in
      p.rows i inside ∙ decide (done i) (λ yes. ap (λ b. if b then after_in link d e else e) yes) (λ no. ap (λ b. if b then after_in link d e else e) no ∙ ap (λ (m : Moved). record e { standing = m.standing }) (sym (others i inside no))) ∙ sym (at_map_in link d d.entries i));
  maintenance = same_set ms (maintained_in link d 0 d.maintenance) (p.channels ∙ sym (maintained_size link d 0 d.maintenance)) (λ c lt.
      let room : c < length d.maintenance = omega (arith, lt, p.channels) in
      now c room ∙ sym (maintained_at link d 0 c d.maintenance room));
  said = λ c. spoken c (slice_index_or ss c None) refl;
  sizes = p.sizes;
}
  where
    now : (c : ℕ) → c < length d.maintenance → is_marked ms c ≡ (is_marked d.maintenance c || list_any (breaks_in link d (0 + c)) d.entries)
    now c room = decide (is_marked d.maintenance c)
        (λ set. p.kept c set ∙ sym (ap (λ b. b || list_any (breaks_in link d (0 + c)) d.entries) set))
        (λ unset. decide (list_any (breaks_in link d (0 + c)) d.entries)
        (λ some. (
        let f = any_there (breaks_in link d (0 + c)) d.entries some in
        let q = and_parts (second_in link d (entry_at d.entries f.0)).broken ((entry_at d.entries f.0).channel == (0 + c)) f.2 in
        let on : (entry_at d.entries f.0).channel ≡ c = eqb-true (entry_at d.entries f.0).channel (0 + c) q.1 ∙ (let z : 0 + c ≡ c = omega arith in z) in
        let moved : done f.0 ≡ true = decide (done f.0) (λ yes. yes) (λ no. absurd (true≢false (sym q.0 ∙ ap (λ (m : Moved). m.broken) (others f.0 f.1 no)))) in
        ap (is_marked ms) (sym on) ∙ p.broken f.0 f.1 moved (omega (arith, on, room)) q.0 ∙ sym (ap₂ (λ a b. a || b) unset some)))
        (λ none. p.whole c unset (λ i lt. ap (λ n. breaks_in link d n (entry_at d.entries i)) (let z : c ≡ 0 + c = omega arith in z) ∙ none_there (breaks_in link d (0 + c)) d.entries i none lt) ∙ sym (ap₂ (λ a b. a || b) unset none)))

    spoken : (c : ℕ) (o : Option Outgoing) → slice_index_or ss c None ≡ o → cons_some (slice_index_or ss c None) [] ≡ said_in link d c d.entries
    spoken c (Some o) is = ap (λ x. cons_some x []) is ∙ sym (p.said c o is)
    spoken c None is = ap (λ x. cons_some x []) is ∙ sym (none_said link d c d.entries (λ i lt on. decide (done i)
        (λ yes. p.silent i lt yes (ap (λ n. slice_index_or ss n None) on ∙ is))
        (λ no. ap (λ (m : Moved). m.said) (others i lt no))))

-- which bookings these are
second_waits_on : (d : Day) (c i : ℕ) (a w s u : Option ℕ) → IsTurn d c a w s u → s ≡ Some i → is_unoffered (entry_at d.entries i).standing ≡ true
second_waits_on d c i a None s u t is = absurd (false≢true (ap is_some (sym (t.no_second refl) ∙ is)))
second_waits_on d c i a (Some r) s u t is =
    let l = (t.second r refl).there i is in
    let p = t.waiting.there r refl in
    let going : d.moment < (entry_at d.entries r).booking.end = ends_later d r t.exchange p.0 (waits_parts c (entry_at d.entries r) p.1).0 in
    let after : (entry_at d.entries r).booking.end ≤ (entry_at d.entries i).booking.start = l.later in
    t.ahead i l.inside l.accepted (omega (arith, going, after))

pub touched_of : (link : Link) (d : Day) (live waiting following second : List (Option ℕ)) → IsExchange d → AreSlots d live waiting following → ((c : ℕ) → slot_at second c ≡ follower following (slot_at waiting c)) → AreTouched link d live waiting second
touched_of link d live waiting following second h s is = record {
  firsts = λ c i there. (let p = (s.lives c).there i there in (p.0, (holds_parts c (entry_at d.entries i) p.1).1));
  seconds = λ c i there. (let p = (s.waits c).there i there in (p.0, (waits_parts c (entry_at d.entries i) p.1).1));
  thirds = λ c i there. second_on d c _ _ _ _ (turn_of d c live waiting following h s) i (sym (is c) ∙ there);
  apart = λ c i two one. true≢false (sym (waits_parts c (entry_at d.entries i) ((s.waits c).there i two).1).0 ∙ live_waits (entry_at d.entries i).standing (holds_parts c (entry_at d.entries i) ((s.lives c).there i one).1).0);
  third_apart = λ c i three one. true≢false (sym (second_waits_on d c i _ _ _ _ (turn_of d c live waiting following h s) (sym (is c) ∙ three)) ∙ live_waits (entry_at d.entries i).standing (holds_parts c (entry_at d.entries i) ((s.lives c).there i one).1).0);
  last_apart = λ c i three two. (
      let p = (s.waits c).there i two in
      let l = ((turn_of d c live waiting following h s).second i two).there i (sym (is c) ∙ three) in
      let order : (entry_at d.entries i).booking.start < (entry_at d.entries i).booking.end = s.ordered i p.0 in
      let late : (entry_at d.entries i).booking.end ≤ (entry_at d.entries i).booking.start = l.later in
      absurd (omega (arith, order, late)));
  others = λ i lt na nw ns. (let c = (entry_at d.entries i).channel in others_stay link d c i _ _ _ _ (turn_of d c live waiting following h s) lt refl na nw (λ there. ns (is c ∙ there)));
}

-- the three lists of slots together
pub with_all : (link : Link) (d : Day) (first second third : List (Option ℕ)) (i : ℕ) → AreTouched link d first second third → i < length d.entries → with_slots d third (with_slots d second (with_slots d first (λ k. false))) i ≡ false → second_in link d (entry_at d.entries i) ≡ stays (entry_at d.entries i).standing
with_all link d first second third i t lt none =
    let c = (entry_at d.entries i).channel in
    let a = both (is_slot (slot_at first c) i || is_slot (slot_at second c) i) (is_slot (slot_at third c) i) none in
    let b = both (is_slot (slot_at first c) i) (is_slot (slot_at second c) i) a.0 in
    t.others i lt (never (slot_at first c) b.0) (never (slot_at second c) b.1) (never (slot_at third c) a.1)
  where
    both : (x y : Bool) → (x || y) ≡ false → (x ≡ false) × (y ≡ false)
    both true y h = absurd (true≢false h)
    both false true h = absurd (true≢false h)
    both false false h = (refl, refl)

    never : (o : Option ℕ) → is_slot o i ≡ false → o ≡ Some i → ⊥
    never o unset is = true≢false (sym (ap (λ x. is_slot x i) is ∙ eq-eqb i i refl) ∙ unset)

pub second_undone : (link : Link) (d : Day) (first second third : List (Option ℕ)) → AreTouched link d first second third → (c i : ℕ) → slot_at second c ≡ Some i → with_slots d first (λ k. false) i ≡ false
second_undone link d first second third t c i is =
    let on = (t.seconds c i is).1 in
    slot_false (slot_at first (entry_at d.entries i).channel) i (λ there. t.apart c i is (ap (slot_at first) (sym on) ∙ there))

pub third_undone : (link : Link) (d : Day) (first second third : List (Option ℕ)) → AreTouched link d first second third → (c i : ℕ) → slot_at third c ≡ Some i → with_slots d second (with_slots d first (λ k. false)) i ≡ false
third_undone link d first second third t c i is =
    let on = (t.thirds c i is).1 in
    ap₂ (λ a b. a || b)
    (slot_false (slot_at first (entry_at d.entries i).channel) i (λ there. t.third_apart c i is (ap (slot_at first) (sym on) ∙ there)))
    (slot_false (slot_at second (entry_at d.entries i).channel) i (λ there. t.last_apart c i is (ap (slot_at second) (sym on) ∙ there)))

-- the same lists
pub kept_as : (link : Link) (d : Day) (done : ℕ → Bool) (es es' : List Entry) (ms ms' : List Bool) (ss ss' : List (Option Outgoing)) → es' ≡ es → ms' ≡ ms → ss' ≡ ss → Passed link d done es ms ss → Passed link d done es' ms' ss'
kept_as link d done es es' ms ms' ss ss' e-is m-is s-is p = rw (e-is, m-is, s-is) p
