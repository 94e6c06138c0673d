-- What a tick leaves in the slots of the channels.
use Rattle.std.proofs.Common.{◌≡◌, ℕ, zero, suc, ◌+◌, ◌≤◌, ◌<◌, true, false, List, [], ◌∷◌, length, Option, Some, None, arith, refl, sym, subst, ap, ◌∙◌, inl, inr, slice_set, length-set, if◌then◌else◌}
use Rattle.std.specs.Prelude.{is_some}
use Rattle.std.proofs.lemmas.Bool.{true≢false, false≢true, cases_eq, cases_lt}
use Rattle.std.proofs.lemmas.List.{get_or-set_same, get_or-set_other}
use Rattle.bx_base.specs.Bookings.{Row}
use Rattle.bx_day.specs.Day.{Day, is_unoffered, entry_at}
use Rattle.bx_day.specs.Ticks.{waits, passed_in}
use Rattle.bx_day.specs.Invariant.{is_refused}
use Rattle.bx_day.specs.Reading.{IsExchange}
use Rattle.bx_day.specs.Slots.{slot_at, waits_on, IsLiveOn, IsWaitingOn, IsLater, IsFollowing, AreSlots}
use Rattle.bx_day.specs.SlotSteps.{follower, is_waiting_at, live_slot_of, waiting_of, IsInside}
use Rattle.bx_day.specs.declared.entry.Entry.{Entry}
use Rattle.bx_day.specs.declared.entry.Moved.{Moved}
use Rattle.bx_day.proofs.Law.{at_map_in}
use Rattle.bx_day.proofs.SlotLemmas.{waits_parts, waits_from}
use Rattle.bx_day.proofs.Tick.{by_cases}
use Rattle.bx_day.proofs.Seats.{after_kept, ordered_kept}
use Rattle.bx_day.proofs.Turns.{After, second_seats, waited, ahead_waits, IsNone, after_first, after_second, far_ahead, IsTurn}
use Rattle.bx_day.proofs.LiveTurns.{second_on, live_settled}
use Rattle.bx_day.proofs.Receive.{unoffered_accepted}
use Rattle.bx_day.specs.declared.entry.Link.{Link}

-- ---- the first that waits after the tick

waits_not : (es : List Entry) (c i : ℕ) (o : Option ℕ) → is_waiting_at es o ≡ false → waits_on c (entry_at es i) ≡ true → IsNone o i
waits_not es c i o idle waits is = true≢false (sym (waits_parts c (entry_at es i) waits).0 ∙ subst (λ x. is_waiting_at es x ≡ false) is idle)

first_again : (link : Link) (d : Day) (c : ℕ) (a w s u : Option ℕ) → IsTurn d c a w s u → is_waiting_at (After link d) w ≡ true → IsWaitingOn (After link d) c w
first_again link d c a w s u t again =
    let seats = second_seats link d in
    let back : (i : ℕ) → i < length (After link d) → i < length d.entries = λ i lt. subst (λ n. i < n) (sym seats.size) lt in
    record {
      there = λ i is. (let p = t.waiting.there i is in (subst (λ n. i < n) seats.size p.0, waits_from c (entry_at (After link d) i) (subst (λ x. is_waiting_at (After link d) x ≡ true) is again) (sym (seats.channel i) ∙ (waits_parts c (entry_at d.entries i) p.1).1)));
      each = λ i lt waits. t.waiting.each i (back i lt) (waited link d c i waits);
      first = λ i r lt waits is less. t.waiting.first i r (back i lt) (waited link d c i waits) is (omega (arith, less, ap (λ (b : Row). b.start) (seats.booking i), ap (λ (b : Row). b.end) (seats.booking r)));
    }

-- one that waits still, where the first does not
later_first : (link : Link) (d : Day) (c i r : ℕ) (a s u : Option ℕ) → IsTurn d c a (Some r) s u → is_waiting_at (After link d) (Some r) ≡ false → i < length (After link d) → waits_on c (entry_at (After link d) i) ≡ true → IsLater d.entries r i
later_first link d c i r a s u t over lt waits = after_first d.entries c i r t.waiting (subst (λ n. i < n) (sym (second_seats link d).size) lt) (waited link d c i waits) (λ same. waits_not (After link d) c i (Some r) over waits (ap (λ k. Some k) (sym same)))

second_turn : (link : Link) (d : Day) (c : ℕ) (a w s u : Option ℕ) → IsTurn d c a w s u → is_waiting_at (After link d) w ≡ false → is_waiting_at (After link d) s ≡ true → IsWaitingOn (After link d) c s
second_turn link d c a None s u t over next = absurd (false≢true (ap (is_waiting_at (After link d)) (sym (t.no_second refl)) ∙ next))
second_turn link d c a (Some r) s u t over next =
    let seats = second_seats link d in
    let b = t.second r refl in
    record {
      there = λ i is. (let p = second_on d c a (Some r) s u t i is in (subst (λ n. i < n) seats.size p.0, waits_from c (entry_at (After link d) i) (subst (λ x. is_waiting_at (After link d) x ≡ true) is next) (sym (seats.channel i) ∙ p.1)));
      each = λ i lt waits. b.each i (later_first link d c i r a s u t over lt waits);
      first = λ i k lt waits is less. b.first i k (later_first link d c i r a s u t over lt waits) is (omega (arith, less, ap (λ (x : Row). x.start) (seats.booking i), ap (λ (x : Row). x.end) (seats.booking k)));
    }

-- one that waits, where neither the first nor the second does
later_second : (link : Link) (d : Day) (c i r k : ℕ) (a u : Option ℕ) → IsTurn d c a (Some r) (Some k) u → is_waiting_at (After link d) (Some r) ≡ false → is_waiting_at (After link d) (Some k) ≡ false → i < length (After link d) → waits_on c (entry_at (After link d) i) ≡ true → IsLater d.entries k i
later_second link d c i r k a u t over done lt waits = after_second d.entries i r k (t.second r refl) (later_first link d c i r a (Some k) u t over lt waits) (λ same. waits_not (After link d) c i (Some k) done waits (ap (λ n. Some n) (sym same)))

nobody_waits : (es : List Entry) (c : ℕ) (o : Option ℕ) → o ≡ None → ((i : ℕ) → i < length es → waits_on c (entry_at es i) ≡ true → ⊥) → IsWaitingOn es c o
nobody_waits es c o none never = record {
  there = λ i is. absurd (false≢true (ap is_some (sym none ∙ is)));
  each = λ i lt waits. absurd (never i lt waits);
  first = λ i r lt waits is less. absurd (never i lt waits);
}

third_turn : (link : Link) (d : Day) (c : ℕ) (a w s u : Option ℕ) → IsTurn d c a w s u → is_waiting_at (After link d) w ≡ false → is_waiting_at (After link d) s ≡ false → IsWaitingOn (After link d) c u
third_turn link d c a None s u t over done = nobody_waits (After link d) c u (t.no_third (t.no_second refl)) (λ i lt waits. false≢true (t.waiting.each i (subst (λ n. i < n) (sym (second_seats link d).size) lt) (waited link d c i waits)))
third_turn link d c a (Some r) None u t over done = nobody_waits (After link d) c u (t.no_third refl) (λ i lt waits. false≢true ((t.second r refl).each i (later_first link d c i r a None u t over lt waits)))
third_turn link d c a (Some r) (Some k) u t over done =
    let seats = second_seats link d in
    let b = t.third k refl in
    let p = t.waiting.there r refl in
    let q = waits_parts c (entry_at d.entries r) p.1 in
    let one = (t.second r refl).there k refl in
    record {
      there = λ i is.
          let two = b.there i is in
          let far = far_ahead d i r k t.exchange t.ordered p.0 q.0 one two in
          let waits : is_unoffered (entry_at d.entries i).standing ≡ true = t.ahead i two.inside two.accepted (omega (arith, far)) in
          let stay = ahead_waits link d i t.exchange two.inside (t.ordered i two.inside) waits far in
          let still : is_unoffered (entry_at (After link d) i).standing ≡ true = ap (λ (e : Entry). is_unoffered e.standing) (at_map_in link d d.entries i) ∙ ap (λ (m : Moved). is_unoffered m.standing) stay ∙ waits in
          (subst (λ n. i < n) seats.size two.inside, waits_from c (entry_at (After link d) i) still (sym (seats.channel i) ∙ two.channel ∙ one.channel ∙ q.1));
      each = λ i lt waits. b.each i (later_second link d c i r k a u t over done lt waits);
      first = λ i n lt waits is less. b.first i n (later_second link d c i r k a u t over done lt waits) is (omega (arith, less, ap (λ (x : Row). x.start) (seats.booking i), ap (λ (x : Row). x.end) (seats.booking n)));
    }

pub waiting_settled : (link : Link) (d : Day) (c : ℕ) (a w s u : Option ℕ) → IsTurn d c a w s u → IsWaitingOn (After link d) c (if is_waiting_at (After link d) w then w else if is_waiting_at (After link d) s then s else u)
waiting_settled link d c a w s u t =
    by_cases (is_waiting_at (After link d) w) _ _ (IsWaitingOn (After link d) c)
    (λ again. first_again link d c a w s u t again)
    (λ over. by_cases (is_waiting_at (After link d) s) _ _ (IsWaitingOn (After link d) c) (λ next. second_turn link d c a w s u t over next) (λ done. third_turn link d c a w s u t over done))

-- ---- all channels

pub turn_of : (d : Day) (c : ℕ) (live waiting following : List (Option ℕ)) → IsExchange d → AreSlots d live waiting following → IsTurn d c (slot_at live c) (slot_at waiting c) (follower following (slot_at waiting c)) (follower following (follower following (slot_at waiting c)))
turn_of d c live waiting following h s = record {
  exchange = h;
  ordered = s.ordered;
  ahead = s.ahead;
  live = s.lives c;
  waiting = s.waits c;
  second = λ r is. followed (slot_at waiting c) r is (λ i there. (let p = (s.waits c).there i there in (p.0, unoffered_accepted (entry_at d.entries i).standing (waits_parts c (entry_at d.entries i) p.1).0)));
  third = λ r is. followed (follower following (slot_at waiting c)) r is (λ i there. second_there (slot_at waiting c) i there (s.waits c));
  no_second = λ none. ap (follower following) none;
  no_third = λ none. ap (follower following) none;
}
  where
    Accepted : Option ℕ → Type 0
    Accepted o = (i : ℕ) → o ≡ Some i → (i < length d.entries) × (is_refused (entry_at d.entries i).standing ≡ false)

    followed : (o : Option ℕ) (r : ℕ) → o ≡ Some r → Accepted o → IsFollowing d.entries r (follower following o)
    followed o r is acc = (let p = acc r is in subst (λ x. IsFollowing d.entries r (follower following x)) (sym is) (s.followings r p.0 p.1))

    second_there : (w : Option ℕ) (i : ℕ) → follower following w ≡ Some i → IsWaitingOn d.entries c w → (i < length d.entries) × (is_refused (entry_at d.entries i).standing ≡ false)
    second_there None i is hw = absurd (false≢true (ap is_some is))
    second_there (Some r) i is hw =
        let p = hw.there r refl in
        let l = (s.followings r p.0 (unoffered_accepted (entry_at d.entries r).standing (waits_parts c (entry_at d.entries r) p.1).0)).there i is in
        (l.inside, l.accepted)

-- the slots of the channels below c are those after the tick, and the others those before it
pub record AreSettledBelow (link : Link) (d : Day) (c : ℕ) (live waiting following live' waiting' : List (Option ℕ)) : Type 0 where
  pub live_size : length live' ≡ length live
  pub waiting_size : length waiting' ≡ length waiting
  pub done : (k : ℕ) → k < c → slot_at live' k ≡ live_slot_of (After link d) (slot_at live k) (slot_at waiting k) (follower following (slot_at waiting k))
  pub found : (k : ℕ) → k < c → slot_at waiting' k ≡ waiting_of (After link d) following (slot_at waiting k) (follower following (slot_at waiting k))
  pub live_left : (k : ℕ) → c ≤ k → slot_at live' k ≡ slot_at live k
  pub waiting_left : (k : ℕ) → c ≤ k → slot_at waiting' k ≡ slot_at waiting k

pub beyond : (xs : List (Option ℕ)) (n : ℕ) → length xs ≤ n → slot_at xs n ≡ None
beyond [] n le = refl
beyond (x ∷ xs) zero le = absurd (omega (arith, le))
beyond (x ∷ xs) (suc n) le = beyond xs n (omega (arith, le))

ahead_after : (link : Link) (d : Day) (live waiting following : List (Option ℕ)) → IsExchange d → AreSlots d live waiting following → (i : ℕ) → i < length (After link d) → is_refused (entry_at (After link d) i).standing ≡ false → d.moment + 1 < (entry_at (After link d) i).booking.start → is_unoffered (entry_at (After link d) i).standing ≡ true
ahead_after link d live waiting following h s i lt accepted early =
    let seats = second_seats link d in
    let inside : i < length d.entries = subst (λ n. i < n) (sym seats.size) lt in
    let later : d.moment + 1 < (entry_at d.entries i).booking.start = omega (arith, early, ap (λ (b : Row). b.start) (seats.booking i)) in
    let waits = s.ahead i inside (seats.refused i ∙ accepted) (omega (arith, later)) in
    ap (λ (e : Entry). is_unoffered e.standing) (at_map_in link d d.entries i) ∙ ap (λ (m : Moved). is_unoffered m.standing) (ahead_waits link d i h inside (s.ordered i inside) waits later) ∙ waits

pub all_settled : (link : Link) (d : Day) (c : ℕ) (live waiting following live' waiting' : List (Option ℕ)) → IsExchange d → 32 ≤ c → AreSlots d live waiting following → AreSettledBelow link d c live waiting following live' waiting' → AreSlots (passed_in link d).day live' waiting' following
all_settled link d c live waiting following live' waiting' h all s done =
    let seats = second_seats link d in
    record {
      live_size = done.live_size ∙ s.live_size;
      waiting_size = done.waiting_size ∙ s.waiting_size;
      after_size = s.after_size ∙ seats.size;
      lives = λ k. subst (IsLiveOn (After link d) k) (sym (live_now k)) (live_settled link d k _ _ _ _ (turn_of d k live waiting following h s));
      waits = λ k. subst (IsWaitingOn (After link d) k) (sym (waiting_now k)) (waiting_settled link d k _ _ _ _ (turn_of d k live waiting following h s));
      followings = λ r lt accepted. after_kept d.entries (After link d) r (slot_at following r) seats (s.followings r (subst (λ n. r < n) (sym seats.size) lt) (seats.refused r ∙ accepted));
      ahead = ahead_after link d live waiting following h s;
      ordered = ordered_kept d.entries (After link d) seats s.ordered;
    }
  where
    live_now : (k : ℕ) → slot_at live' k ≡ live_slot_of (After link d) (slot_at live k) (slot_at waiting k) (follower following (slot_at waiting k))
    live_now k = elim (cases_lt k c) [
      | inl less ↦ done.done k less
      | inr le ↦ (
          let none : slot_at waiting k ≡ None = beyond waiting k (omega (arith, s.waiting_size, all, le)) in
          let nobody : slot_at live k ≡ None = beyond live k (omega (arith, s.live_size, all, le)) in
          done.live_left k le ∙ nobody ∙ sym (ap (λ o. live_slot_of (After link d) o (slot_at waiting k) (follower following (slot_at waiting k))) nobody ∙ ap (λ o. live_slot_of (After link d) None o (follower following o)) none))
    ]

    waiting_now : (k : ℕ) → slot_at waiting' k ≡ waiting_of (After link d) following (slot_at waiting k) (follower following (slot_at waiting k))
    waiting_now k = elim (cases_lt k c) [
      | inl less ↦ done.found k less
      | inr le ↦ (
          let none : slot_at waiting k ≡ None = beyond waiting k (omega (arith, s.waiting_size, all, le)) in
          done.waiting_left k le ∙ none ∙ sym (ap (λ o. waiting_of (After link d) following o (follower following o)) none))
    ]

-- ---- channel by channel

pub none_settled : (link : Link) (d : Day) (live waiting following : List (Option ℕ)) → AreSettledBelow link d 0 live waiting following live waiting
none_settled link d live waiting following = record {
  live_size = refl;
  waiting_size = refl;
  done = λ k lt. absurd (omega (arith, lt));
  found = λ k lt. absurd (omega (arith, lt));
  live_left = λ k le. refl;
  waiting_left = λ k le. refl;
}

pub one_settled : (link : Link) (d : Day) (c : ℕ) (live waiting following ls ws : List (Option ℕ)) (a w : Option ℕ) → c < length live → c < length waiting
    → a ≡ live_slot_of (After link d) (slot_at live c) (slot_at waiting c) (follower following (slot_at waiting c)) → w ≡ waiting_of (After link d) following (slot_at waiting c) (follower following (slot_at waiting c))
    → AreSettledBelow link d c live waiting following ls ws → AreSettledBelow link d (c + 1) live waiting following (slice_set ls c a) (slice_set ws c w)
one_settled link d c live waiting following ls ws a w la lw is_a is_w h = record {
  live_size = length-set ls c a ∙ h.live_size;
  waiting_size = length-set ws c w ∙ h.waiting_size;
  done = λ k lt. elim (cases_eq k c) [
    | inl here ↦ subst (λ n. slot_at (slice_set ls c a) n ≡ live_slot_of (After link d) (slot_at live n) (slot_at waiting n) (follower following (slot_at waiting n))) (sym here) (get_or-set_same ls c a None (omega (arith, la, h.live_size)) ∙ is_a)
    | inr other ↦ get_or-set_other ls c k a None other ∙ h.done k (omega (arith, lt, other))
  ];
  found = λ k lt. elim (cases_eq k c) [
    | inl here ↦ subst (λ n. slot_at (slice_set ws c w) n ≡ waiting_of (After link d) following (slot_at waiting n) (follower following (slot_at waiting n))) (sym here) (get_or-set_same ws c w None (omega (arith, lw, h.waiting_size)) ∙ is_w)
    | inr other ↦ get_or-set_other ws c k w None other ∙ h.found k (omega (arith, lt, other))
  ];
  live_left = λ k le. get_or-set_other ls c k a None (λ q. absurd (omega (arith, q, le))) ∙ h.live_left k (omega (arith, le));
  waiting_left = λ k le. get_or-set_other ws c k w None (λ q. absurd (omega (arith, q, le))) ∙ h.waiting_left k (omega (arith, le));
}

-- the slots from channel c on are as they were
pub record AreLeft (c : ℕ) (ls ws live' waiting' : List (Option ℕ)) : Type 0 where
  pub live_size : length live' ≡ 32
  pub waiting_size : length waiting' ≡ 32
  pub live : (k : ℕ) → c ≤ k → slot_at live' k ≡ slot_at ls k
  pub waiting : (k : ℕ) → c ≤ k → slot_at waiting' k ≡ slot_at ws k

pub one_less : (c : ℕ) (live waiting ls ws : List (Option ℕ)) (a w : Option ℕ) → AreLeft c live waiting ls ws → AreLeft (c + 1) live waiting (slice_set ls c a) (slice_set ws c w)
one_less c live waiting ls ws a w h = record {
  live_size = length-set ls c a ∙ h.live_size;
  waiting_size = length-set ws c w ∙ h.waiting_size;
  live = λ k le. get_or-set_other ls c k a None (λ q. absurd (omega (arith, q, le))) ∙ h.live k (omega (arith, le));
  waiting = λ k le. get_or-set_other ws c k w None (λ q. absurd (omega (arith, q, le))) ∙ h.waiting k (omega (arith, le));
}

-- ---- the slots name bookings

pub live_inside : (d : Day) (es : List Entry) (live waiting following : List (Option ℕ)) → length es ≡ length d.entries → AreSlots d live waiting following → (c : ℕ) → IsInside es (slot_at live c)
live_inside d es live waiting following size s c i is = subst (λ n. i < n) (sym size) ((s.lives c).there i is).0

pub waiting_inside : (d : Day) (es : List Entry) (live waiting following : List (Option ℕ)) → length es ≡ length d.entries → AreSlots d live waiting following → (c : ℕ) → IsInside es (slot_at waiting c)
waiting_inside d es live waiting following size s c i is = subst (λ n. i < n) (sym size) ((s.waits c).there i is).0

pub second_inside : (d : Day) (es : List Entry) (live waiting following : List (Option ℕ)) → length es ≡ length d.entries → IsExchange d → AreSlots d live waiting following → (c : ℕ) → IsInside es (follower following (slot_at waiting c))
second_inside d es live waiting following size h s c i is = subst (λ n. i < n) (sym size) (second_on d c _ _ _ _ (turn_of d c live waiting following h s) i is).0
