-- What a message of a call, or one that begins it, leaves in the slots.
use Rattle.std.proofs.Common.{◌≡◌, ◌≢◌, ℕ, ◌≤◌, ◌<◌, ◌||◌, true, false, List, length, Option, Some, None, arith, refl, sym, subst, ap, ◌∙◌, inl, inr, slice_set, length-set, if◌then◌else◌}
use Rattle.std.specs.Prelude.{is_some}
use Rattle.std.specs.List.{position}
use Rattle.std.proofs.lemmas.Bool.{true≢false, false≢true, cases_eq, or_cases}
use Rattle.std.proofs.lemmas.List.{get_or-set_same, get_or-set_other}
use Rattle.bx_calls.specs.NetTable.{net_message}
use Rattle.bx_calls.specs.Said.{Said}
use Rattle.bx_day.specs.Day.{Day, is_live, is_unoffered, holds, entry_at, no_entry}
use Rattle.bx_day.specs.Receipts.{hears, names, is_open}
use Rattle.bx_day.specs.Invariant.{is_refused}
use Rattle.bx_day.specs.Reading.{IsExchange, Seated}
use Rattle.bx_day.specs.Slots.{slot_at, waits_on, IsLiveOn, IsWaitingOn, IsLater, IsFollowing, AreSlots}
use Rattle.bx_day.specs.declared.entry.Entry.{Entry}
use Rattle.bx_day.specs.declared.entry.Standing.{Standing}
use Rattle.bx_day.specs.declared.entry.Standing.TheVariants.{Unoffered, OnCall}
use Rattle.bx_day.proofs.Once.{decide, each_at}
use Rattle.bx_day.proofs.Receive.{open_parts, Passes, index_passes}
use Rattle.bx_day.proofs.Law.{hears_same}
use Rattle.bx_day.proofs.Seats.{SameSeats, after_kept, ordered_kept}
use Rattle.bx_day.proofs.Turns.{after_first, follow_waits}
use Rattle.bx_day.proofs.SlotLemmas.{live_accepted, named_live, some_is, holds_parts, holds_from, waits_parts, waits_from, ends_later, open_first, open_there, held_is}
use Rattle.bx_day.proofs.Tick.{by_cases, runs_at, with_standing, free_held}

-- the day after, as far as the slots go
abbrev pub put_day : Day → ℕ → Standing → Day
put_day d i s = record d { entries = slice_set d.entries i (with_standing (entry_at d.entries i) s) }

put_same : (d : Day) (i : ℕ) (s : Standing) → i < length d.entries → entry_at (put_day d i s).entries i ≡ with_standing (entry_at d.entries i) s
put_same d i s lt = get_or-set_same d.entries i (with_standing (entry_at d.entries i) s) no_entry lt

put_other : (d : Day) (i k : ℕ) (s : Standing) → k ≢ i → entry_at (put_day d i s).entries k ≡ entry_at d.entries k
put_other d i k s other = get_or-set_other d.entries i k (with_standing (entry_at d.entries i) s) no_entry other

by_index : (P : Entry → Type 0) (d : Day) (i k : ℕ) (s : Standing) → i < length d.entries → (k ≡ i → P (with_standing (entry_at d.entries i) s)) → (k ≢ i → P (entry_at d.entries k)) → P (entry_at (put_day d i s).entries k)
by_index P d i k s lt f g = elim (cases_eq k i) [
  | inl here ↦ subst (λ n. P (entry_at (put_day d i s).entries n)) (sym here) (subst P (sym (put_same d i s lt)) (f here))
  | inr other ↦ subst P (sym (put_other d i k s other)) (g other)
]

put_seats : (d : Day) (i : ℕ) (s : Standing) → i < length d.entries → is_refused s ≡ is_refused (entry_at d.entries i).standing → SameSeats d.entries (put_day d i s).entries
put_seats d i s lt same = record {
  size = sym (length-set d.entries i (with_standing (entry_at d.entries i) s));
  booking = λ k. by_index (λ e. (entry_at d.entries k).booking ≡ e.booking) d i k s lt (λ here. ap (λ n. (entry_at d.entries n).booking) here) (λ other. refl);
  channel = λ k. by_index (λ e. (entry_at d.entries k).channel ≡ e.channel) d i k s lt (λ here. ap (λ n. (entry_at d.entries n).channel) here) (λ other. refl);
  refused = λ k. by_index (λ e. is_refused (entry_at d.entries k).standing ≡ is_refused e.standing) d i k s lt (λ here. ap (λ n. is_refused (entry_at d.entries n).standing) here ∙ sym same) (λ other. refl);
}

-- a booking that is live, or may be called
abbrev pub IsTurned : Day → Entry → Type 0
IsTurned d e = (is_live e.standing || is_open d e) ≡ true

open_waiting : (d : Day) (i : ℕ) (o : Option ℕ) → IsExchange d → i < length d.entries → is_open d (entry_at d.entries i) ≡ true → IsWaitingOn d.entries (entry_at d.entries i).channel o → o ≡ Some i
open_waiting d i None h lt opened w = absurd (false≢true (open_there d i None lt opened w))
open_waiting d i (Some r) h lt opened w = ap (λ k. Some k) (sym (open_first d i r (Some r) h lt opened w refl))

-- no other booking holds the channel
alone : (d : Day) (i j : ℕ) (o : Option ℕ) → i < length d.entries → IsTurned d (entry_at d.entries i) → IsLiveOn d.entries (entry_at d.entries i).channel o → j < length d.entries → holds (entry_at d.entries i).channel (entry_at d.entries j) ≡ true → j ≡ i
alone d i j o lt turn h inside holding =
    let e = entry_at d.entries i in
    elim (or_cases (is_live e.standing) (is_open d e) turn) [
      | inl live ↦ some_is j i (sym (h.each j inside holding) ∙ h.each i lt (holds_from e.channel e live refl))
      | inr opened ↦ absurd (free_held d e.channel (open_parts d e opened).free (held_is d.entries e.channel o h ∙ ap is_some (h.each j inside holding)))
    ]

live_put : (d : Day) (i k : ℕ) (s : Standing) (live : List (Option ℕ)) (a : Option ℕ) → i < length d.entries → IsTurned d (entry_at d.entries i) → (entry_at d.entries i).channel < length live → a ≡ (if is_live s then Some i else None) → ((c : ℕ) → IsLiveOn d.entries c (slot_at live c)) → IsLiveOn (put_day d i s).entries k (slot_at (slice_set live (entry_at d.entries i).channel a) k)
live_put d i k s live a lt turn size is lives =
    let e = entry_at d.entries i in
    let seats = length-set d.entries i (with_standing e s) in
    elim (cases_eq k e.channel) [
      | inl here ↦
          let slot : slot_at (slice_set live e.channel a) k ≡ a = ap (slot_at (slice_set live e.channel a)) here ∙ get_or-set_same live e.channel a None size in
          subst (IsLiveOn (put_day d i s).entries k) (sym slot) (decide (is_live s)
          (λ on. let now : a ≡ Some i = is ∙ ap (λ b. if b then (let o : Option ℕ = Some i in o) else None) on in
          record {
            there = λ j there.
                let same : j ≡ i = some_is j i (sym there ∙ now) in
                (omega (arith, lt, same, seats), subst (λ n. holds k (entry_at (put_day d i s).entries n) ≡ true) (sym same) (subst (λ x. holds k x ≡ true) (sym (put_same d i s lt)) (holds_from k (with_standing e s) on (sym here))));
            each = λ j inside holding. elim (cases_eq j i) [
              | inl same ↦ now ∙ ap (λ n. Some n) (sym same)
              | inr other ↦ absurd (other (alone d i j (slot_at live e.channel) lt turn (lives e.channel) (omega (arith, inside, seats)) (subst (λ n. holds n (entry_at d.entries j) ≡ true) here (ap (holds k) (sym (put_other d i j s other)) ∙ holding))))
            ];
          })
          (λ off. let now : a ≡ None = is ∙ ap (λ b. if b then (let o : Option ℕ = Some i in o) else None) off in
          record {
            there = λ j there. absurd (false≢true (ap is_some (sym now ∙ there)));
            each = λ j inside holding. elim (cases_eq j i) [
              | inl same ↦ absurd (true≢false (sym (holds_parts k (entry_at (put_day d i s).entries i) (subst (λ n. holds k (entry_at (put_day d i s).entries n) ≡ true) same holding)).0 ∙ ap (λ (x : Entry). is_live x.standing) (put_same d i s lt) ∙ off))
              | inr other ↦ absurd (other (alone d i j (slot_at live e.channel) lt turn (lives e.channel) (omega (arith, inside, seats)) (subst (λ n. holds n (entry_at d.entries j) ≡ true) here (ap (holds k) (sym (put_other d i j s other)) ∙ holding))))
            ];
          }))
      | inr away ↦
          let slot : slot_at (slice_set live e.channel a) k ≡ slot_at live k = get_or-set_other live e.channel k a None away in
          let h = lives k in
          let off : (j : ℕ) → j ≡ i → (entry_at d.entries j).channel ≡ k → ⊥ = λ j same on. away (sym on ∙ ap (λ n. (entry_at d.entries n).channel) same) in
          subst (IsLiveOn (put_day d i s).entries k) (sym slot) (record {
            there = λ j there. (let p = h.there j there in (omega (arith, p.0, seats), by_index (λ x. holds k x ≡ true) d i j s lt (λ same. absurd (off j same (holds_parts k (entry_at d.entries j) p.1).1)) (λ other. p.1)));
            each = λ j inside holding. elim (cases_eq j i) [
              | inl same ↦ absurd (away (sym (holds_parts k (entry_at (put_day d i s).entries i) (subst (λ n. holds k (entry_at (put_day d i s).entries n) ≡ true) same holding)).1 ∙ ap (λ (x : Entry). x.channel) (put_same d i s lt)))
              | inr other ↦ h.each j (omega (arith, inside, seats)) (ap (holds k) (sym (put_other d i j s other)) ∙ holding)
            ];
          })
    ]

-- one that waits after it, waited before it and is another
still : (d : Day) (i j k : ℕ) (s : Standing) → i < length d.entries → is_unoffered s ≡ false → waits_on k (entry_at (put_day d i s).entries j) ≡ true → (j ≢ i) × (waits_on k (entry_at d.entries j) ≡ true)
still d i j k s lt begun waits = elim (cases_eq j i) [
  | inl same ↦ absurd (true≢false (sym (waits_parts k (entry_at (put_day d i s).entries i) (subst (λ n. waits_on k (entry_at (put_day d i s).entries n) ≡ true) same waits)).0 ∙ ap (λ (x : Entry). is_unoffered x.standing) (put_same d i s lt) ∙ begun))
  | inr other ↦ (other, ap (waits_on k) (sym (put_other d i j s other)) ∙ waits)
]

-- a channel whose first that waits is another
waits_put : (d : Day) (i k : ℕ) (s : Standing) (o : Option ℕ) → i < length d.entries → is_unoffered s ≡ false → is_refused s ≡ is_refused (entry_at d.entries i).standing → waits_on k (entry_at d.entries i) ≡ false → IsWaitingOn d.entries k o → IsWaitingOn (put_day d i s).entries k o
waits_put d i k s o lt begun same idle h =
    let seats = put_seats d i s lt same in
    record {
      there = λ j there. (let p = h.there j there in (subst (λ n. j < n) seats.size p.0, by_index (λ x. waits_on k x ≡ true) d i j s lt (λ here. absurd (true≢false (sym (subst (λ n. waits_on k (entry_at d.entries n) ≡ true) here p.1) ∙ idle))) (λ other. p.1)));
      each = λ j inside waits. h.each j (subst (λ n. j < n) (sym seats.size) inside) (still d i j k s lt begun waits).1;
      first = λ j r inside waits is less. h.first j r (subst (λ n. j < n) (sym seats.size) inside) (still d i j k s lt begun waits).1 is (omega (arith, less, ap (λ b. b.start) (seats.booking j), ap (λ b. b.end) (seats.booking r)));
    }

-- the channel of a booking that begins: the one after it is the first now
next_put : (d : Day) (i : ℕ) (s : Standing) (o : Option ℕ) → IsExchange d → i < length d.entries → is_unoffered s ≡ false → is_refused s ≡ is_refused (entry_at d.entries i).standing → is_unoffered (entry_at d.entries i).standing ≡ true → ((k : ℕ) → k < length d.entries → (entry_at d.entries k).booking.start < (entry_at d.entries k).booking.end)
    → ((k : ℕ) → k < length d.entries → is_refused (entry_at d.entries k).standing ≡ false → d.moment < (entry_at d.entries k).booking.start → is_unoffered (entry_at d.entries k).standing ≡ true)
    → IsWaitingOn d.entries (entry_at d.entries i).channel (Some i) → IsFollowing d.entries i o → IsWaitingOn (put_day d i s).entries (entry_at d.entries i).channel o
next_put d i s o h lt begun same waits order ahead first b =
    let e = entry_at d.entries i in
    let seats = put_seats d i s lt same in
    let back : (j : ℕ) → j < length (put_day d i s).entries → j < length d.entries = λ j inside. subst (λ n. j < n) (sym seats.size) inside in
    let later : (j : ℕ) → j < length (put_day d i s).entries → waits_on e.channel (entry_at (put_day d i s).entries j) ≡ true → IsLater d.entries i j = λ j inside w. (let p = still d i j e.channel s lt begun w in after_first d.entries e.channel j i first (back j inside) p.1 p.0) in
    record {
      there = λ j is.
          let p = b.there j is in
          let going : d.moment < e.booking.end = ends_later d i h lt waits in
          let after : e.booking.end ≤ (entry_at d.entries j).booking.start = p.later in
          let own : e.booking.start < e.booking.end = order i lt in
          let idle = ahead j p.inside p.accepted (omega (arith, going, after)) in (
            subst (λ n. j < n) seats.size p.inside,
            by_index (λ x. waits_on e.channel x ≡ true) d i j s lt
                (λ here. absurd (let o' : (entry_at d.entries j).booking.start ≡ e.booking.start = ap (λ n. (entry_at d.entries n).booking.start) here in omega (arith, o', own, after)))
                (λ other. waits_from e.channel (entry_at d.entries j) idle p.channel),
          );
      each = λ j inside w. b.each j (later j inside w);
      first = λ j r inside w is less. b.first j r (later j inside w) is (omega (arith, less, ap (λ x. x.start) (seats.booking j), ap (λ x. x.end) (seats.booking r)));
    }

off_channel : (c k : ℕ) (e : Entry) → e.channel ≡ c → k ≢ c → waits_on k e ≡ false
off_channel c k e on away = decide (waits_on k e) (λ waits. absurd (away (sym (waits_parts k e waits).1 ∙ on))) (λ idle. idle)

pub live_waits : (s : Standing) → is_live s ≡ true → is_unoffered s ≡ false
live_waits Unoffered h = absurd (false≢true h)
live_waits s h = refl

busy_waits : (k : ℕ) (e : Entry) → is_unoffered e.standing ≡ false → waits_on k e ≡ false
busy_waits k e busy = decide (waits_on k e) (λ waits. absurd (true≢false (sym (waits_parts k e waits).0 ∙ busy))) (λ idle. idle)

abbrev pub next_slot : Day → ℕ → List (Option ℕ) → List (Option ℕ) → Option ℕ
next_slot d i waiting following = if is_unoffered (entry_at d.entries i).standing then slot_at following i else slot_at waiting (entry_at d.entries i).channel

waiting_put : (d : Day) (i k : ℕ) (s : Standing) (live waiting following : List (Option ℕ)) → IsExchange d → i < length d.entries → IsTurned d (entry_at d.entries i) → is_unoffered s ≡ false → is_refused s ≡ is_refused (entry_at d.entries i).standing → is_refused (entry_at d.entries i).standing ≡ false → (entry_at d.entries i).channel < length waiting → AreSlots d live waiting following
    → IsWaitingOn (put_day d i s).entries k (slot_at (slice_set waiting (entry_at d.entries i).channel (next_slot d i waiting following)) k)
waiting_put d i k s live waiting following h lt turn begun same accepted size slots =
    let e = entry_at d.entries i in
    let c = e.channel in
    let w = next_slot d i waiting following in
    elim (cases_eq k c) [
      | inl here ↦
          let slot : slot_at (slice_set waiting c w) k ≡ w = ap (slot_at (slice_set waiting c w)) here ∙ get_or-set_same waiting c w None size in
          subst (IsWaitingOn (put_day d i s).entries k) (sym slot) (subst (λ n. IsWaitingOn (put_day d i s).entries n w) (sym here) (by_cases (is_unoffered e.standing) _ _ (IsWaitingOn (put_day d i s).entries c)
          (λ waits.
          let opened : is_open d e ≡ true = elim (or_cases (is_live e.standing) (is_open d e) turn) [ inl live ↦ absurd (true≢false (sym waits ∙ live_waits e.standing live)) | inr opens ↦ opens ] in
          let first : IsWaitingOn d.entries c (Some i) = subst (IsWaitingOn d.entries c) (open_waiting d i (slot_at waiting c) h lt opened (slots.waits c)) (slots.waits c) in
          next_put d i s (slot_at following i) h lt begun same waits slots.ordered slots.ahead first (slots.followings i lt accepted))
          (λ busy. waits_put d i c s (slot_at waiting c) lt begun same (busy_waits c e busy) (slots.waits c))))
      | inr away ↦
          let slot : slot_at (slice_set waiting c w) k ≡ slot_at waiting k = get_or-set_other waiting c k w None away in
          subst (IsWaitingOn (put_day d i s).entries k) (sym slot) (waits_put d i k s (slot_at waiting k) lt begun same (off_channel c k e refl away) (slots.waits k))
    ]

-- one that is live or may be called has begun, or does now
not_ahead : (d : Day) (i : ℕ) (live waiting following : List (Option ℕ)) → i < length d.entries → IsTurned d (entry_at d.entries i) → is_refused (entry_at d.entries i).standing ≡ false → AreSlots d live waiting following → d.moment < (entry_at d.entries i).booking.start → ⊥
not_ahead d i live waiting following lt turn accepted slots early =
    let e = entry_at d.entries i in
    elim (or_cases (is_live e.standing) (is_open d e) turn) [
      | inl on ↦ true≢false (sym (slots.ahead i lt accepted early) ∙ live_waits e.standing on)
      | inr opened ↦ (let begun = (runs_at e.booking d.moment (open_parts d e opened).runs).0 in absurd (omega (arith, begun, early)))
    ]

pub turned_accepted : (d : Day) (e : Entry) → IsTurned d e → is_refused e.standing ≡ false
turned_accepted d e turn = elim (or_cases (is_live e.standing) (is_open d e) turn) [ inl live ↦ live_accepted e.standing live | inr opened ↦ (open_parts d e opened).accepted ]

pub put_slots : (d : Day) (i : ℕ) (s : Standing) (live waiting following : List (Option ℕ)) (a : Option ℕ) → IsExchange d → i < length d.entries → IsTurned d (entry_at d.entries i) → is_unoffered s ≡ false → is_refused s ≡ false → is_refused (entry_at d.entries i).standing ≡ false → a ≡ (if is_live s then Some i else None) → AreSlots d live waiting following
    → AreSlots (put_day d i s) (slice_set live (entry_at d.entries i).channel a) (slice_set waiting (entry_at d.entries i).channel (next_slot d i waiting following)) following
put_slots d i s live waiting following a h lt turn begun lawful accepted is slots =
    let e = entry_at d.entries i in
    let same : is_refused s ≡ is_refused e.standing = lawful ∙ sym accepted in
    let seats = put_seats d i s lt same in
    let high : e.channel ≤ 31 = ((each_at Seated d.entries i lt h.seated).channel accepted).1 in
    record {
      live_size = length-set live e.channel a ∙ slots.live_size;
      waiting_size = length-set waiting e.channel (next_slot d i waiting following) ∙ slots.waiting_size;
      after_size = slots.after_size ∙ seats.size;
      lives = λ k. live_put d i k s live a lt turn (omega (arith, high, slots.live_size)) is slots.lives;
      waits = λ k. waiting_put d i k s live waiting following h lt turn begun same accepted (omega (arith, high, slots.waiting_size)) slots;
      followings = λ r inside free. after_kept d.entries (put_day d i s).entries r (slot_at following r) seats (slots.followings r (subst (λ n. r < n) (sym seats.size) inside) (seats.refused r ∙ free));
      ahead = λ j inside free early. by_index (λ x. is_unoffered x.standing ≡ true) d i j s lt
          (λ here. absurd (not_ahead d i live waiting following lt turn accepted slots (let o : (entry_at (put_day d i s).entries j).booking.start ≡ (entry_at d.entries i).booking.start = ap (λ b. b.start) (sym (seats.booking j)) ∙ ap (λ n. (entry_at d.entries n).booking.start) here in omega (arith, o, early))))
          (λ other. slots.ahead j (subst (λ n. j < n) (sym seats.size) inside) (seats.refused j ∙ free) (omega (arith, early, ap (λ b. b.start) (seats.booking j))));
      ordered = ordered_kept d.entries (put_day d i s).entries seats slots.ordered;
    }

-- a live booking that hears a message does not wait then
pub heard_begun : (m : Said) (t : ℕ) (s : Standing) → is_live s ≡ true → is_unoffered (hears m t s).standing ≡ false
heard_begun m t (OnCall c a) h = follow_waits a t (net_message c m.heard t).reply (net_message c m.heard t).next
heard_begun m t s h = absurd (false≢true h)

pub heard_accepted : (m : Said) (t : ℕ) (s : Standing) → is_live s ≡ true → is_refused (hears m t s).standing ≡ false
heard_accepted m t s h = hears_same m t s ∙ live_accepted s h

pub live_turned : (d : Day) (e : Entry) → is_live e.standing ≡ true → IsTurned d e
live_turned d e h = ap (λ b. b || is_open d e) h

-- one that is named is live
pub named_there_live : (d : Day) (m : Said) (i : ℕ) → position (names m) d.entries ≡ Some i → is_live (entry_at d.entries i).standing ≡ true
named_there_live d m i is = named_live m (entry_at d.entries i) (subst (Passes (names m) d.entries) is (index_passes (names m) d.entries))
