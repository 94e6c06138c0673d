-- One step of the sweep, where each row has channels of its own to choose from.
use Rattle.std.proofs.Common.{◌≡◌, ◌≢◌, ℕ, ◌+◌, ◌<◌, ◌≤◌, Bool, true, List, length, get_or, set, Option, Some, None, refl, sym, ◌∙◌, ap, subst, arith, inl, inr, get_or-set_same, get_or-set_other, length-set}
use Rattle.std.specs.Prelude.{nat_le, nat_lt}
use Rattle.std.proofs.lemmas.Bool.{cases_lt, cases_eq, and_from, le-leb, lt-ltb}
use Rattle.bx_base.specs.Channels.{has_channel}
use Rattle.bx_base.specs.Bookings.{Row, row_at, AreBookings, is_running}
use Rattle.bx_base.proofs.Overlaps.{ends_from_overlap}
use Rattle.bx_colour.specs.Colouring.{IsEarlier, channel_of, IsChannelTaken, IsLowestFree, IsGiven}
use Rattle.bx_base.specs.Orders.{index_in as row_in}
use Rattle.bx_colour.specs.Orders.{IsOrder}
use Rattle.bx_colour.proofs.Sweeping.{not_before_itself, not_both_before, has_one}

-- the first k rows in order have their channels, no other row has one, and until says when each channel's last row ends
pub record IsSweptAmong (rows : List Row) (allowed : ℕ → List Bool) (order : List (ℕ × ℕ)) (k : ℕ) (assigned : List (Option ℕ)) (until : List ℕ) : Type 0 where
  pub one_each : length assigned ≡ length rows
  pub slots : length until ≡ 32
  pub done : (m : ℕ) → m < k → IsGiven rows (allowed (row_in order m)) assigned (row_in order m)
  pub only : (j c : ℕ) → channel_of assigned j ≡ Some c → (m : ℕ) × (m < k) × (row_in order m ≡ j)
  pub ends : (j c : ℕ) → channel_of assigned j ≡ Some c → (row_at rows j).end ≤ get_or until c 0
  pub held : (c : ℕ) → 0 < get_or until c 0 → (j : ℕ) × (channel_of assigned j ≡ Some c) × ((row_at rows j).end ≡ get_or until c 0)

started_by : (rows : List Row) (i j : ℕ) → IsEarlier rows i j → (row_at rows i).start ≤ (row_at rows j).start
started_by rows i j (inl h) = omega (arith, h)
started_by rows i j (inr h) = omega (arith, h.0)

-- what a channel for row r changes for rows that do not come after it
module _ (rows : List Row) (assigned : List (Option ℕ)) (r channel : ℕ) where
  other_channel : (j : ℕ) → j ≢ r → channel_of (set assigned r (Some channel)) j ≡ channel_of assigned j
  other_channel j h = get_or-set_other assigned r j (Some channel) None h

  taken_after : (i n : ℕ) → (IsEarlier rows r i → ⊥) → IsChannelTaken rows assigned i n → channel_of assigned r ≡ None → IsChannelTaken rows (set assigned r (Some channel)) i n
  taken_after i n late (j, within, before, overlap, has) none =
      let differs : j ≢ r = λ e. (let e' = ap (channel_of assigned) e in cc) in
      (j, within, before, overlap, other_channel j differs ∙ has)

  taken_before : (i n : ℕ) → (IsEarlier rows r i → ⊥) → IsChannelTaken rows (set assigned r (Some channel)) i n → IsChannelTaken rows assigned i n
  taken_before i n late (j, within, before, overlap, has) =
      let differs : j ≢ r = λ e. late (subst (λ m. IsEarlier rows m i) e before) in
      (j, within, before, overlap, sym (other_channel j differs) ∙ has)

  lowest_after : (channels : List Bool) (i n : ℕ) → (IsEarlier rows r i → ⊥) → channel_of assigned r ≡ None → IsLowestFree rows channels assigned i n → IsLowestFree rows channels (set assigned r (Some channel)) i n
  lowest_after channels i n late none is =
      record {
        in_service = is.in_service;
        free = λ t. is.free (taken_before i n late t);
        lowest = λ m h s. taken_after i m late (is.lowest m h s) none;
      }

module _ (rows : List Row) (allowed : ℕ → List Bool) (accepted : List Bool) (order : List (ℕ × ℕ)) (bookings : AreBookings rows) (is_order : IsOrder rows accepted order) (k : ℕ) (here : k < length order) (assigned : List (Option ℕ)) (until : List ℕ) (swept : IsSweptAmong rows allowed order k assigned until) where
  abbrev next : ℕ
  next = row_in order k

  next_within : next < length rows
  next_within = (is_order.each k here).within

  -- the next row has no channel yet
  none_yet : (o : Option ℕ) → channel_of assigned next ≡ o → channel_of assigned next ≡ None
  none_yet None e = e
  none_yet (Some c) e =
      let m = swept.only next c e in
      absurd (not_before_itself rows next (subst (λ j. IsEarlier rows j next) m.2 (is_order.rising m.0 k m.1 here)))

  pub no_channel_yet : channel_of assigned next ≡ None
  no_channel_yet = none_yet (channel_of assigned next) refl

  -- a row with a channel stands before the next one
  pub before_next : (j c : ℕ) → channel_of assigned j ≡ Some c → IsEarlier rows j next
  before_next j c e = let m = swept.only j c e in subst (λ i. IsEarlier rows i next) m.2 (is_order.rising m.0 k m.1 here)

  -- the last row of a channel that is not free runs at the next row's start
  pub running_on : (n : ℕ) → (row_at rows next).start < get_or until n 0 → (j : ℕ) × (channel_of assigned j ≡ Some n) × (is_running (row_at rows j) (row_at rows next).start ≡ true)
  running_on n h =
      let j = swept.held n (omega arith) in
      let began = started_by rows j.0 next (before_next j.0 n j.1) in
      (j.0, j.1, and_from _ _ (le-leb (row_at rows j.0).start (row_at rows next).start began) (lt-ltb (row_at rows next).start (row_at rows j.0).end (omega (arith, j.2))))

  pub taken_from_until : (n : ℕ) → (row_at rows next).start < get_or until n 0 → IsChannelTaken rows assigned next n
  taken_from_until n h =
      let on = running_on n h in
      let booking = bookings.each next next_within in
      let starts = and_from (nat_le (row_at rows next).start (row_at rows next).start) (nat_lt (row_at rows next).start (row_at rows next).end) (le-leb _ _ (omega arith)) (lt-ltb _ _ booking.in_order) in
      (on.0, omega (arith, has_one assigned on.0 n on.1, swept.one_each), before_next on.0 n on.1, ((row_at rows next).start, on.2, starts), on.1)

  until_from_taken : (n : ℕ) → IsChannelTaken rows assigned next n → (row_at rows next).start < get_or until n 0
  until_from_taken n (j, within, before, overlap, has) =
      omega (arith, (ends_from_overlap (row_at rows j) (row_at rows next) overlap).1, swept.ends j n has)

  module _ (channel : ℕ) (in_service : has_channel (allowed next) channel ≡ true) (is_free : get_or until channel 0 ≤ (row_at rows next).start) (is_lowest : (n : ℕ) → n < channel → has_channel (allowed next) n ≡ true → (row_at rows next).start < get_or until n 0) (slot : channel < length until) where
    lowest_for_next : IsLowestFree rows (allowed next) assigned next channel
    lowest_for_next =
        record {
          in_service = in_service;
          free = λ t. omega (arith, is_free, until_from_taken channel t);
          lowest = λ n h s. taken_from_until n (is_lowest n h s);
        }

    abbrev after : List (Option ℕ)
    after = set assigned next (Some channel)

    abbrev until_after : List ℕ
    until_after = set until channel (row_at rows next).end

    new_channel : channel_of after next ≡ Some channel
    new_channel = get_or-set_same assigned next (Some channel) None (omega (arith, swept.one_each, next_within))

    new_end : get_or until_after channel 0 ≡ (row_at rows next).end
    new_end = get_or-set_same until channel (row_at rows next).end 0 slot

    same_end : (n : ℕ) → n ≢ channel → get_or until_after n 0 ≡ get_or until n 0
    same_end n h = get_or-set_other until channel n (row_at rows next).end 0 h

    done_after : (m : ℕ) → m < k + 1 → IsGiven rows (allowed (row_in order m)) after (row_in order m)
    done_after m h =
        elim (cases_lt m k) [
          | inl a ↦ (
              let given = swept.done m a in
              let earlier = is_order.rising m k a here in
              let differs : row_in order m ≢ next = λ e. not_before_itself rows next (subst (λ i. IsEarlier rows i next) e earlier) in
              (given.0, other_channel rows assigned next channel (row_in order m) differs ∙ given.1, lowest_after rows assigned next channel (allowed (row_in order m)) (row_in order m) given.0 (λ t. not_both_before rows (row_in order m) next earlier t) no_channel_yet given.2))
          | inr a ↦ (
              let e : m ≡ k = omega arith in
              rw e (channel, new_channel, lowest_after rows assigned next channel (allowed next) next channel (not_before_itself rows next) no_channel_yet lowest_for_next))
        ]

    only_after : (j c : ℕ) → channel_of after j ≡ Some c → (m : ℕ) × (m < k + 1) × (row_in order m ≡ j)
    only_after j c e =
        elim (cases_eq j next) [
          | inl s ↦ (k, omega arith, sym s)
          | inr d ↦ (let m = swept.only j c (sym (other_channel rows assigned next channel j d) ∙ e) in (m.0, omega (arith, m.1), m.2))
        ]

    ends_after : (j c : ℕ) → channel_of after j ≡ Some c → (row_at rows j).end ≤ get_or until_after c 0
    ends_after j c e =
        elim (cases_eq j next) [
          | inl s ↦ (
              let new = ap (channel_of after) s in
              let same : c ≡ channel = cc (new_channel) in
              omega (arith, ap (λ (i : ℕ). (row_at rows i).end) s, ap (λ (n : ℕ). get_or until_after n 0) same, new_end))
          | inr d ↦ (
              let old = swept.ends j c (sym (other_channel rows assigned next channel j d) ∙ e) in
              elim (cases_eq c channel) [
                | inl s ↦ omega (arith, old, ap (λ (n : ℕ). get_or until n 0) s, ap (λ (n : ℕ). get_or until_after n 0) s, new_end, is_free, (bookings.each next next_within).in_order)
                | inr n ↦ omega (arith, old, same_end c n)
              ])
        ]

    held_after : (c : ℕ) → 0 < get_or until_after c 0 → (j : ℕ) × (channel_of after j ≡ Some c) × ((row_at rows j).end ≡ get_or until_after c 0)
    held_after c h =
        elim (cases_eq c channel) [
          | inl s ↦ rw s (next, new_channel, sym new_end)
          | inr d ↦ (
              let j = swept.held c (omega (arith, same_end c d)) in
              let differs : j.0 ≢ next = λ e. (let e' = ap (channel_of assigned) e in cc (no_channel_yet)) in
              (j.0, other_channel rows assigned next channel j.0 differs ∙ j.1, j.2 ∙ sym (same_end c d)))
        ]

    pub swept_more : IsSweptAmong rows allowed order (k + 1) after until_after
    swept_more =
        record {
          one_each = length-set assigned next (Some channel) ∙ swept.one_each;
          slots = length-set until channel (row_at rows next).end ∙ swept.slots;
          done = done_after;
          only = only_after;
          ends = ends_after;
          held = held_after;
        }

-- the step as the code takes it
pub swept_step : (rows : List Row) (allowed : ℕ → List Bool) (accepted : List Bool) (order : List (ℕ × ℕ)) → AreBookings rows → IsOrder rows accepted order → (k : ℕ) → k < length order → (assigned : List (Option ℕ)) (until : List ℕ) → IsSweptAmong rows allowed order k assigned until → (channel slot start end : ℕ) → slot ≡ channel → start ≡ (row_at rows (row_in order k)).start → end ≡ (row_at rows (row_in order k)).end → has_channel (allowed (row_in order k)) channel ≡ true → get_or until channel 0 ≤ start → ((n : ℕ) → n < channel → has_channel (allowed (row_in order k)) n ≡ true → start < get_or until n 0) → slot < length until → IsSweptAmong rows allowed order (k + 1) (set assigned (row_in order k) (Some channel)) (set until slot end)
swept_step rows allowed accepted order bookings is_order k here assigned until swept channel slot start end slot_is start_is end_is in_service is_free lowest within =
    rw (slot_is, end_is) (swept_more rows allowed accepted order bookings is_order k here assigned until swept channel in_service (omega (arith, is_free, start_is)) (λ n h s. omega (arith, lowest n h s, start_is)) (omega (arith, within, slot_is)))
