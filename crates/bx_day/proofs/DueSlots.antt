-- The next tick that does something, by the slots of the channels.
use Rattle.std.proofs.Common.{◌≡◌, ℕ, min, ◌+◌, ◌≤◌, ◌<◌, Bool, true, false, length, Option, Some, None, arith, refl, sym, subst, ap, ◌∙◌, inl, inr, if◌then◌else◌}
use Rattle.std.proofs.Math.Nat.{le-min, min-le_left, min-le_right}
use Rattle.std.proofs.lemmas.Bool.{true≢false, false≢true, cases_lt}
use Rattle.bx_channels.specs.ChannelNumbers.{IsChannel}
use Rattle.bx_day.specs.Day.{Day, is_live, is_unoffered, is_free, entry_at}
use Rattle.bx_day.specs.Invariant.{is_refused}
use Rattle.bx_day.specs.Quiet.{never}
use Rattle.bx_day.specs.QuietSeconds.{IsFirstDue, tick_due, due_at}
use Rattle.bx_day.specs.SlotSteps.{IsDueOn, slot_due}
use Rattle.bx_day.specs.Reading.{IsExchange, Seated}
use Rattle.bx_day.specs.Slots.{IsLiveOn, IsWaitingOn}
use Rattle.bx_day.specs.declared.entry.Entry.{Entry}
use Rattle.bx_day.specs.declared.entry.Standing.{Standing}
use Rattle.bx_day.specs.declared.entry.Standing.TheVariants.{Refused, Unoffered, OnCall}
use Rattle.bx_day.proofs.Once.{decide, each_at}
use Rattle.bx_day.proofs.SlotLemmas.{holds_parts, holds_from, waits_parts, waits_from}

-- a booking that is neither live nor waits is over for the day
never_due : (e : Entry) (free : Bool) (s : Standing) → is_live s ≡ false → is_unoffered s ≡ false → tick_due e free s ≡ never
never_due e free Unoffered live waits = absurd (true≢false waits)
never_due e free (OnCall c a) live waits = absurd (true≢false live)
never_due e free s live waits = refl

within : (start end : ℕ) (b free : Bool) → start ≤ end → (start ≤ (if free then (if b then end else start) else end)) × ((if free then (if b then end else start) else end) ≤ end)
within start end true true order = (order, omega arith)
within start end false true order = (omega arith, order)
within start end b false order = (order, omega arith)

-- one that waits is due between its start and its end
waiting_due : (e : Entry) (free : Bool) (s : Standing) → is_unoffered s ≡ true → e.booking.start ≤ e.booking.end → (e.booking.start ≤ tick_due e free s) × (tick_due e free s ≤ e.booking.end)
waiting_due e free Unoffered waits order = within e.booking.start e.booking.end e.booking.inward free order
waiting_due e free s waits order = absurd (false≢true waits)

own_due : (d : Day) (c i : ℕ) (free : Bool) → free ≡ is_free d c → (entry_at d.entries i).channel ≡ c → slot_due d.entries free (Some i) ≡ due_at d i
own_due d c i free is on = let e = entry_at d.entries i in ap (λ b. tick_due e b e.standing) (is ∙ ap (is_free d) (sym on))

-- the first that waits is due before each other that does
first_due : (d : Day) (c i own : ℕ) (free : Bool) (w : Option ℕ) → ((k : ℕ) → k < length d.entries → (entry_at d.entries k).booking.start < (entry_at d.entries k).booking.end) → IsWaitingOn d.entries c w → free ≡ is_free d c → own ≤ slot_due d.entries free w → i < length d.entries → is_unoffered (entry_at d.entries i).standing ≡ true → (entry_at d.entries i).channel ≡ c → own ≤ due_at d i
first_due d c i own free None order h is le lt waits on = absurd (false≢true (h.each i lt (waits_from c (entry_at d.entries i) waits on)))
first_due d c i own free (Some r) order h is le lt waits on =
    let e = entry_at d.entries i in
    let f = entry_at d.entries r in
    let p = h.there r refl in
    let q = waits_parts c f p.1 in
    let due = own_due d c r free is q.1 in
    elim (cases_lt e.booking.start f.booking.end) [
      | inl less ↦ (let same : i ≡ r = h.first i r lt (waits_from c e waits on) refl less in subst (λ k. own ≤ due_at d k) (sym same) (omega (arith, le, due)))
      | inr later ↦ (
          let low : due_at d r ≤ f.booking.end = (waiting_due f (is_free d f.channel) f.standing q.0 (let o : f.booking.start < f.booking.end = order r p.0 in omega (arith, o))).1 in
          let high : e.booking.start ≤ due_at d i = (waiting_due e (is_free d e.channel) e.standing waits (let o : e.booking.start < e.booking.end = order i lt in omega (arith, o))).0 in
          omega (arith, le, due, low, high, later))
    ]

live_due : (d : Day) (c i own : ℕ) (free : Bool) (a : Option ℕ) → IsLiveOn d.entries c a → free ≡ is_free d c → own ≤ slot_due d.entries free a → i < length d.entries → is_live (entry_at d.entries i).standing ≡ true → (entry_at d.entries i).channel ≡ c → own ≤ due_at d i
live_due d c i own free a h is le lt live on =
    let slot = h.each i lt (holds_from c (entry_at d.entries i) live on) in
    let less : own ≤ slot_due d.entries free (Some i) = subst (λ o. own ≤ slot_due d.entries free o) slot le in
    omega (arith, less, own_due d c i free is on)

abbrev Latest : Day → ℕ → Type 0
Latest d due = (t : ℕ) → t ≤ 300001 → ((i : ℕ) → i < length d.entries → t ≤ due_at d i) → t ≤ due

slot_latest : (d : Day) (c : ℕ) (free : Bool) (o : Option ℕ) → free ≡ is_free d c → ((i : ℕ) → o ≡ Some i → (i < length d.entries) × ((entry_at d.entries i).channel ≡ c)) → Latest d (slot_due d.entries free o)
slot_latest d c free None is there t low each = low
slot_latest d c free (Some i) is there t low each = let p = there i refl in let le : t ≤ due_at d i = each i p.0 in omega (arith, le, own_due d c i free is p.1)

pub due_on_is : (d : Day) (c own : ℕ) (free : Bool) (a w : Option ℕ) → ((k : ℕ) → k < length d.entries → (entry_at d.entries k).booking.start < (entry_at d.entries k).booking.end) → IsLiveOn d.entries c a → IsWaitingOn d.entries c w → free ≡ is_free d c → own ≡ min (slot_due d.entries free a) (slot_due d.entries free w) → IsDueOn d c own
due_on_is d c own free a w order ha hw is all =
    let left : own ≤ slot_due d.entries free a = omega (arith, all, min-le_left (slot_due d.entries free a) (slot_due d.entries free w)) in
    let right : own ≤ slot_due d.entries free w = omega (arith, all, min-le_right (slot_due d.entries free a) (slot_due d.entries free w)) in
    record {
      before = λ i lt accepted on.
          let e = entry_at d.entries i in
          let low : min 300001 own ≤ 300001 = min-le_left 300001 own in
          let high : min 300001 own ≤ own = min-le_right 300001 own in
          decide (is_live e.standing)
          (λ live. let le : own ≤ due_at d i = live_due d c i own free a ha is left lt live on in omega (arith, high, le))
          (λ idle. decide (is_unoffered e.standing)
          (λ waits. let le : own ≤ due_at d i = first_due d c i own free w order hw is right lt waits on in omega (arith, high, le))
          (λ done. let late : due_at d i ≡ 4294967295 = never_due e (is_free d e.channel) e.standing idle done in omega (arith, low, late)));
      latest = λ t small each.
          let one : t ≤ slot_due d.entries free a = slot_latest d c free a is (λ i there. (let p = ha.there i there in (p.0, (holds_parts c (entry_at d.entries i) p.1).1))) t small each in
          let two : t ≤ slot_due d.entries free w = slot_latest d c free w is (λ i there. (let p = hw.there i there in (p.0, (waits_parts c (entry_at d.entries i) p.1).1))) t small each in
          subst (λ n. t ≤ n) (sym all) (le-min one two);
    }

-- ---- over the channels, one by one

pub record IsDueBelow (d : Day) (c due : ℕ) : Type 0 where
  pub limit : due ≤ 300001
  pub before : (i : ℕ) → i < length d.entries → is_refused (entry_at d.entries i).standing ≡ false → (entry_at d.entries i).channel < c → due ≤ due_at d i
  pub latest : Latest d due

pub none_below : (d : Day) → IsExchange d → IsDueBelow d 1 300001
none_below d h = record {
  limit = omega arith;
  before = λ i lt accepted on. absurd (let is = (each_at Seated d.entries i lt h.seated).channel accepted in let low : 1 ≤ (entry_at d.entries i).channel = is.0 in omega (arith, on, low));
  latest = λ t low each. low;
}

pub below_more : (d : Day) (c due own : ℕ) → IsDueOn d c own → IsDueBelow d c due → IsDueBelow d (c + 1) (min due own)
below_more d c due own h s =
    let left : min due own ≤ due = min-le_left due own in
    let right : min due own ≤ own = min-le_right due own in
    let limit : due ≤ 300001 = s.limit in
    record {
      limit = omega (arith, left, limit);
      before = λ i lt accepted on. elim (cases_lt (entry_at d.entries i).channel c) [
        | inl less ↦ (let le : due ≤ due_at d i = s.before i lt accepted less in omega (arith, left, le))
        | inr le ↦ (
            let here : min 300001 own ≤ due_at d i = h.before i lt accepted (omega (arith, on, le)) in
            let both : min due own ≤ min 300001 own = le-min (omega (arith, left, limit)) right in
            omega (arith, both, here))
      ];
      latest = λ t low each. le-min (s.latest t low each) (h.latest t low each);
    }

pub below_past : (d : Day) (c due : ℕ) → IsExchange d → (IsChannel c → ⊥) → IsDueBelow d c due → IsDueBelow d (c + 1) due
below_past d c due h no_channel s = record {
  limit = s.limit;
  before = λ i lt accepted on. elim (cases_lt (entry_at d.entries i).channel c) [
    | inl less ↦ s.before i lt accepted less
    | inr le ↦ absurd (no_channel (subst IsChannel (let same : (entry_at d.entries i).channel ≡ c = omega (arith, on, le) in same) ((each_at Seated d.entries i lt h.seated).channel accepted)))
  ];
  latest = s.latest;
}

accepted_due : (d : Day) (i : ℕ) → is_refused (entry_at d.entries i).standing ≡ true → due_at d i ≡ never
accepted_due d i h = let e = entry_at d.entries i in step e (is_free d e.channel) e.standing h
  where
    step : (e : Entry) (free : Bool) (s : Standing) → is_refused s ≡ true → tick_due e free s ≡ never
    step e free Refused h = refl
    step e free s h = absurd (false≢true h)

pub all_below : (d : Day) (c due : ℕ) → IsExchange d → ((k : ℕ) → k < length d.entries → (entry_at d.entries k).booking.start < (entry_at d.entries k).booking.end) → 32 ≤ c → IsDueBelow d c due → IsFirstDue d (length d.entries) due
all_below d c due h order all s =
    let limit : due ≤ 300001 = s.limit in
    record {
      limit = limit;
      ordered = λ i lt. (let o : (entry_at d.entries i).booking.start < (entry_at d.entries i).booking.end = order i lt in omega (arith, o));
      before = λ i lt. decide (is_refused (entry_at d.entries i).standing)
          (λ refused. let late : due_at d i ≡ 4294967295 = accepted_due d i refused in omega (arith, limit, late))
          (λ accepted.
          let is = (each_at Seated d.entries i lt h.seated).channel accepted in
          let high : (entry_at d.entries i).channel ≤ 31 = is.1 in
          s.before i lt accepted (omega (arith, high, all)));
      latest = s.latest;
    }
