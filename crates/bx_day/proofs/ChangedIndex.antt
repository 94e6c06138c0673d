-- An exchange that goes on with another plan: its day is one that an exchange may be in, and its slots are those of that day.
use Rattle.std.proofs.Common.{◌≡◌, ℕ, zero, suc, ◌+◌, ◌≤◌, ◌<◌, Bool, true, false, List, [], ◌∷◌, length, Option, Some, None, arith, refl, sym, subst, ap, ◌∙◌, inl, inr, slice_index_or, slice_set, take}
use Rattle.std.proofs.lemmas.Bool.{true≢false, cases_lt}
use Rattle.bx_channels.specs.ChannelNumbers.{IsChannel}
use Rattle.bx_q931.specs.Outgoing.{IsCallReference}
use Rattle.bx_base.specs.Bookings.{Row, row_at, is_running, AreBookings, Carries}
use Rattle.bx_base.specs.Channels.{IsChannelSet}
use Rattle.bx_base.specs.Plans.{is_accepted, channel_at}
use Rattle.bx_calls.specs.declared.net_state.NetOrigin.{NetOrigin}
use Rattle.bx_calls.specs.declared.net_state.NetOrigin.TheVariants.{Outward, Inward}
use Rattle.bx_day.specs.declared.entry.Activity.{Activity}
use Rattle.bx_day.specs.declared.entry.Activity.TheVariants.{Never, Since, Was}
use Rattle.bx_day.specs.declared.entry.Entry.{Entry}
use Rattle.bx_day.specs.declared.entry.Standing.{Standing}
use Rattle.bx_day.specs.declared.entry.Standing.TheVariants.{Unoffered, OnCall, Carried, Missed}
use Rattle.bx_day.specs.Day.{Day, entry_at, entry_of, entries_from, holds, is_live, is_unoffered}
use Rattle.bx_day.specs.Changed.{with_past, referred, with_references, changed, IsAhead, HasBegunAs, AgreesAt, AreReferredByRow, AgreesWith}
use Rattle.bx_day.specs.Changing.{changed_to}
use Rattle.bx_day.specs.Invariant.{EntryFits, OriginFits, Phase, Ringing, Talking, Clearing, PhaseFits, phase_of, ActivityFits, Apart, is_refused}
use Rattle.bx_day.specs.Linking.{AreLinks}
use Rattle.bx_day.specs.Outlasting.{AreEarliest}
use Rattle.bx_day.specs.Reading.{IsExchange, Seated}
use Rattle.bx_day.specs.Slots.{slot_at, AreSlots}
use Rattle.bx_day.proofs.Changed.{IsAlike, IsShared, kept, idle_kept, alike_kept, holds_shared, past_size, at_past, beyond_past}
use Rattle.bx_day.proofs.ChangedPlan.{shared_of, come_of, referred_size, referred_at, beyond_referred}
use Rattle.bx_day.proofs.Law.{IsFrame, frame_of, row_of_entry, reference_of_entry}
use Rattle.bx_day.proofs.LiveTurns.{pairs_at, pairs_from}
use Rattle.bx_day.proofs.Once.{each_at, none≢some, not_back}
use Rattle.bx_day.proofs.OpeningDay.{opening_size, opening_at, waits_new}
use Rattle.bx_day.proofs.Quiet.{all_at as all_from}
use Rattle.bx_day.proofs.Resting.{IsToCome, rests_unheld}
use Rattle.bx_day.proofs.SlotLemmas.{some_is, holds_parts}
use Rattle.bx_day.proofs.Tick.{with_standing}
use Rattle.bx_day.proofs.WaitingAnew.{earliest_waits}

-- ---- of one booking

-- a booking of a day, and the row of a plan that it goes on as
module _ (t k : ℕ) (e : Entry) (b : Row) (c : ℕ) (h : HasBegunAs t e b (Some c)) where
  runs_on : t < e.booking.end → t < b.end
  runs_on lt = elim h.end [ inl q ↦ omega (arith, lt, q) | inr p ↦ p.1 ]

  origin_kept : (reference : ℕ) (o : NetOrigin) → OriginFits e.reference e.booking reference o → OriginFits e.reference b reference o
  origin_kept reference (Outward called) f = (h.inward ∙ f.0, f.1)
  origin_kept reference Inward f = h.inward ∙ f

  phase_kept : (p : Phase) → PhaseFits t e.booking p → PhaseFits t b p
  phase_kept Clearing f = tt
  phase_kept p f = (omega (arith, f.0, h.start), runs_on f.1)

  until_kept : (until : ℕ) → until ≤ t → until ≤ e.booking.end → until ≤ b.end
  until_kept until by before = elim h.end [ inl q ↦ omega (arith, before, q) | inr p ↦ omega (arith, by, p.1) ]

  activity_kept : (p : Phase) (a : Activity) → ActivityFits t e.booking p a → ActivityFits t b p a
  activity_kept Ringing Never f = tt
  activity_kept Talking (Since from) f = (omega (arith, f.0, h.start), f.1)
  activity_kept Clearing Never f = tt
  activity_kept Clearing (Was from until) f = (omega (arith, f.0, h.start), f.1, f.2, until_kept until f.2 f.3)
  activity_kept p a f = absurd f

  missed_kept : e.booking.end ≤ t → b.end ≤ t
  missed_kept over = elim h.end [ inl q ↦ omega (arith, over, q) | inr p ↦ absurd (omega (arith, over, p.0)) ]

-- what has become of it fits the row
fits_begun : (t k : ℕ) (e : Entry) (b : Row) (c : ℕ) (s : Standing) → HasBegunAs t (with_standing e s) b (Some c) → EntryFits t (with_standing e s) → EntryFits t (with_standing (referred e (entry_of k b (Some c))) s)
fits_begun t k e b c Unoffered h f = runs_on t k (with_standing e Unoffered) b c h f
fits_begun t k e b c (OnCall call a) h f =
    let x = with_standing e (OnCall call a) in
    record {
      channel = f.channel ∙ sym (some_is c e.channel h.channel);
      origin = origin_kept t k x b c h call.reference call.origin f.origin;
      phase = phase_kept t k x b c h (phase_of call.state) f.phase;
      due = f.due;
      activity = activity_kept t k x b c h (phase_of call.state) a f.activity;
    }
fits_begun t k e b c (Carried from until) h f = let begins : e.booking.start ≤ from = f.0 in (omega (arith, begins, h.start), f.1, h.over)
fits_begun t k e b c Missed h f = missed_kept t k (with_standing e Missed) b c h f
fits_begun t k e b c s h f = tt

fits_changed : (t k : ℕ) (e : Entry) (b : Row) (a : Option ℕ) → b.start < b.end → AgreesAt t e b a → EntryFits t e → EntryFits t (kept e (referred e (entry_of k b a)))
fits_changed t k e b None order h f = elim h [
  | inl idle ↦ subst (EntryFits t) (sym (idle_kept e (referred e (entry_of k b None)) idle.0)) tt
  | inr same ↦ absurd (none≢some e.channel same.channel)
]
fits_changed t k e b (Some c) order h f = elim h [
  | inl idle ↦ subst (EntryFits t) (sym (idle_kept e (referred e (entry_of k b (Some c))) idle.0)) (let q : t < b.start = idle.1 refl in let p : t < b.end = omega (arith, q, order) in p)
  | inr same ↦ subst (EntryFits t) (sym (alike_kept (t + 1) e (referred e (entry_of k b (Some c))) (begun_alike t k e b c same))) (fits_begun t k e b c e.standing same f)
]
  where
    begun_alike : (t k : ℕ) (e : Entry) (b : Row) (c : ℕ) → HasBegunAs t e b (Some c) → IsAlike (t + 1) e (referred e (entry_of k b (Some c)))
    begun_alike t k e b c same = record {
      reference = refl;
      start = same.start;
      end = elim same.end [ inl q ↦ inl q | inr p ↦ inr (omega (arith, p.0), omega (arith, p.1)) ];
      number = same.number;
      inward = same.inward;
      channel = some_is c e.channel same.channel;
      waits = refl;
      accepted = same.accepted;
    }

-- what is idle is as the plan has it, and what has begun is accepted in both
frame_shared : (m k : ℕ) (e : Entry) (b : Row) (a : Option ℕ) → IsShared m e (referred e (entry_of k b a)) → IsFrame b a (kept e (referred e (entry_of k b a)))
frame_shared m k e b None h = elim h [
  | inl idle ↦ subst (IsFrame b None) (sym (idle_kept e (referred e (entry_of k b None)) idle.0)) (record { booking = refl; channel = refl; accepted = refl })
  | inr same ↦ absurd (true≢false (ap is_refused same.waits))
]
frame_shared m k e b (Some c) h = elim h [
  | inl idle ↦ subst (IsFrame b (Some c)) (sym (idle_kept e (referred e (entry_of k b (Some c))) idle.0)) (record { booking = refl; channel = refl; accepted = refl })
  | inr same ↦ subst (IsFrame b (Some c)) (sym (alike_kept m e (referred e (entry_of k b (Some c))) same)) (record { booking = refl; channel = refl; accepted = same.accepted })
]

-- one that is accepted and starts later waits
waits_shared : (t k : ℕ) (e : Entry) (b : Row) (a : Option ℕ) → IsShared (t + 1) e (referred e (entry_of k b a)) → (is_refused e.standing ≡ false → t < e.booking.start → is_unoffered e.standing ≡ true) → t < b.start → is_refused (kept e (referred e (entry_of k b a))).standing ≡ false → is_unoffered (kept e (referred e (entry_of k b a))).standing ≡ true
waits_shared t k e b a h ahead later accepted = elim h [
  | inl idle ↦ (let is = idle_kept e (referred e (entry_of k b a)) idle.0 in ap (λ (x : Entry). is_unoffered x.standing) is ∙ waits_new k b a (ap (λ (x : Entry). is_refused x.standing) (sym is) ∙ accepted))
  | inr same ↦ ap (λ (x : Entry). is_unoffered x.standing) (alike_kept (t + 1) e (referred e (entry_of k b a)) same) ∙ ahead same.accepted (let start : b.start ≡ e.booking.start = sym (starts_at k b a) ∙ same.start in omega (arith, later, start))
]
  where
    starts_at : (k : ℕ) (b : Row) (a : Option ℕ) → (entry_of k b a).booking.start ≡ b.start
    starts_at k b None = refl
    starts_at k b (Some c) = refl

-- one that is live was so, on its channel
live_shared : (m : ℕ) (e n : Entry) → IsShared m e n → is_live (kept e n).standing ≡ true → (is_live e.standing ≡ true) × (n.channel ≡ e.channel)
live_shared m e n h lives = elim h [
  | inl idle ↦ absurd (true≢false (sym lives ∙ ap (λ (x : Entry). is_live x.standing) (idle_kept e n idle.0) ∙ rests_unheld m n.booking.start n.standing idle.1.rests))
  | inr same ↦ (ap (λ (x : Entry). is_live x.standing) (sym (alike_kept m e n same)) ∙ lives, same.channel)
]

-- ---- the day

pub changed_size : (d : Day) (rows : List Row) (assigned : List (Option ℕ)) → length d.entries ≤ length rows → length (changed rows assigned d).entries ≡ length rows
changed_size d rows assigned few =
    let planned = entries_from 1 rows assigned in
    let room : length d.entries ≤ length planned = omega (arith, few, opening_size 1 rows assigned) in
    let same = referred_size d.entries planned room in
    past_size d.entries (with_references d.entries planned) (omega (arith, room, same)) ∙ same ∙ opening_size 1 rows assigned

module _ (d : Day) (rows : List Row) (channels : List Bool) (assigned : List (Option ℕ)) (live waiting following : List (Option ℕ)) (bookings : AreBookings rows) (set : IsChannelSet channels) (carries : Carries rows channels (is_accepted assigned) (channel_at assigned)) (h : IsExchange d) (s : AreSlots d live waiting following) (x : AgreesWith d rows assigned) where
  abbrev planned : List Entry
  planned = entries_from 1 rows assigned

  abbrev news : List Entry
  news = with_references d.entries planned

  abbrev all : List Entry
  all = with_past d.entries news

  room : length d.entries ≤ length planned
  room = let le : length d.entries ≤ length rows = x.longer in omega (arith, le, opening_size 1 rows assigned)

  news_size : length news ≡ length rows
  news_size = referred_size d.entries planned room ∙ opening_size 1 rows assigned

  fewer : length d.entries ≤ length news
  fewer = let le : length d.entries ≤ length rows = x.longer in omega (arith, le, news_size)

  size : length all ≡ length rows
  size = past_size d.entries news fewer ∙ news_size

  planned_at : (i : ℕ) → i < length rows → entry_at planned i ≡ entry_of (i + 1) (row_at rows i) (slice_index_or assigned i None)
  planned_at i lt = opening_at 1 (i + 1) rows assigned i (let q : 1 + i ≡ i + 1 = omega arith in q) lt

  -- those that were there before have their references
  named_at : (i : ℕ) → i < length d.entries → entry_at news i ≡ referred (entry_at d.entries i) (entry_of (i + 1) (row_at rows i) (slice_index_or assigned i None))
  named_at i lt = referred_at d.entries planned i room lt ∙ ap (referred (entry_at d.entries i)) (planned_at i (omega (arith, lt, x.longer)))

  new_at : (i : ℕ) → length d.entries ≤ i → i < length rows → entry_at news i ≡ entry_of (i + 1) (row_at rows i) (slice_index_or assigned i None)
  new_at i low lt = beyond_referred d.entries planned i room low ∙ planned_at i lt

  in_order : (i : ℕ) → i < length rows → (row_at rows i).start < (row_at rows i).end
  in_order i lt = (bookings.each i lt).in_order

  shared_row : (i : ℕ) → i < length d.entries → IsShared (d.moment + 1) (entry_at d.entries i) (referred (entry_at d.entries i) (entry_of (i + 1) (row_at rows i) (slice_index_or assigned i None)))
  shared_row i lt = shared_of d.moment (i + 1) (entry_at d.entries i) (row_at rows i) (slice_index_or assigned i None) (in_order i (omega (arith, lt, x.longer))) (x.each i lt)

  shared_place : (i : ℕ) → i < length d.entries → IsShared (d.moment + 1) (entry_at d.entries i) (entry_at news i)
  shared_place i lt = subst (IsShared (d.moment + 1) (entry_at d.entries i)) (sym (named_at i lt)) (shared_row i lt)

  come_place : (i : ℕ) → length d.entries ≤ i → i < length news → IsToCome (d.moment + 1) (entry_at news i)
  come_place i low inside =
      let lt : i < length rows = omega (arith, inside, news_size) in
      subst (IsToCome (d.moment + 1)) (sym (new_at i low lt)) (come_of d.moment (i + 1) (row_at rows i) (slice_index_or assigned i None) (x.later i low lt) (in_order i lt))

  -- what stands at a place
  old_at : (i : ℕ) → i < length d.entries → entry_at all i ≡ kept (entry_at d.entries i) (referred (entry_at d.entries i) (entry_of (i + 1) (row_at rows i) (slice_index_or assigned i None)))
  old_at i lt = at_past d.entries news i fewer lt ∙ ap (kept (entry_at d.entries i)) (named_at i lt)

  past_at : (i : ℕ) → length d.entries ≤ i → i < length rows → entry_at all i ≡ entry_of (i + 1) (row_at rows i) (slice_index_or assigned i None)
  past_at i low lt = beyond_past d.entries news i fewer low ∙ new_at i low lt

  frame_at : (i : ℕ) → i < length rows → IsFrame (row_at rows i) (slice_index_or assigned i None) (entry_at all i)
  frame_at i lt = elim (cases_lt i (length d.entries)) [
    | inl old ↦ subst (IsFrame (row_at rows i) (slice_index_or assigned i None)) (sym (old_at i old)) (frame_shared (d.moment + 1) (i + 1) (entry_at d.entries i) (row_at rows i) (slice_index_or assigned i None) (shared_row i old))
    | inr new ↦ subst (IsFrame (row_at rows i) (slice_index_or assigned i None)) (sym (past_at i new lt)) (frame_of (i + 1) (row_at rows i) (slice_index_or assigned i None))
  ]

  fits_ahead : (k : ℕ) (b : Row) (a : Option ℕ) → IsAhead d.moment b a → b.start < b.end → EntryFits d.moment (entry_of k b a)
  fits_ahead k b None ahead order = tt
  fits_ahead k b (Some c) ahead order = (let q : d.moment < b.start = ahead refl in let p : d.moment < b.end = omega (arith, q, order) in p)

  fits_at : (i : ℕ) → i < length all → EntryFits d.moment (entry_at all i)
  fits_at i inside =
      let lt : i < length rows = omega (arith, inside, size) in
      elim (cases_lt i (length d.entries)) [
        | inl old ↦ subst (EntryFits d.moment) (sym (old_at i old)) (fits_changed d.moment (i + 1) (entry_at d.entries i) (row_at rows i) (slice_index_or assigned i None) (in_order i lt) (x.each i old) (each_at (EntryFits d.moment) d.entries i old h.day.each))
        | inr new ↦ subst (EntryFits d.moment) (sym (past_at i new lt)) (fits_ahead (i + 1) (row_at rows i) (slice_index_or assigned i None) (x.later i new lt) (in_order i lt))
      ]

  accepted_at : (i : ℕ) → i < length rows → is_refused (entry_at all i).standing ≡ false → is_accepted assigned i ≡ true
  accepted_at i lt accepted = not_back false (is_accepted assigned i) (sym accepted ∙ (frame_at i lt).accepted)

  runs_in : (i t : ℕ) → i < length rows → is_running (entry_at all i).booking t ≡ true → is_running (row_at rows i) t ≡ true
  runs_in i t lt runs = subst (λ (b : Row). is_running b t ≡ true) (frame_at i lt).booking runs

  -- what is live was so, on its channel
  live_old : (i : ℕ) → i < length all → is_live (entry_at all i).standing ≡ true → i < length d.entries
  live_old i inside lives = elim (cases_lt i (length d.entries)) [
    | inl old ↦ old
    | inr new ↦ absurd (
        let lt : i < length rows = omega (arith, inside, size) in
        let t = come_place i new (omega (arith, lt, news_size)) in
        true≢false (sym lives ∙ ap (λ (e : Entry). is_live e.standing) (beyond_past d.entries news i fewer new) ∙ rests_unheld (d.moment + 1) (entry_at news i).booking.start (entry_at news i).standing t.rests))
  ]

  live_same : (i : ℕ) → i < length d.entries → is_live (entry_at all i).standing ≡ true → (is_live (entry_at d.entries i).standing ≡ true) × ((entry_at all i).channel ≡ (entry_at d.entries i).channel)
  live_same i old lives =
      let is = at_past d.entries news i fewer old in
      let p = live_shared (d.moment + 1) (entry_at d.entries i) (entry_at news i) (shared_place i old) (ap (λ (e : Entry). is_live e.standing) (sym is) ∙ lives) in
      (p.0, ap (λ (e : Entry). e.channel) is ∙ p.1)

  apart_at : (i j : ℕ) → i < j → j < length all → Apart (entry_at all i) (entry_at all j)
  apart_at i j less inside =
      let lj : j < length rows = omega (arith, inside, size) in
      let li : i < length rows = omega (arith, less, lj) in
      record {
        planned = λ ai aj same t ri rj. carries.apart i j less lj (accepted_at i li ai) (accepted_at j lj aj) (t, runs_in i t li ri, runs_in j t lj rj) (sym (frame_at i li).channel ∙ same ∙ (frame_at j lj).channel);
        live = λ vi vj same. (
            let oi = live_old i (omega (arith, less, inside)) vi in
            let oj = live_old j inside vj in
            let wi = live_same i oi vi in
            let wj = live_same j oj vj in
            (pairs_at Apart d.entries i j less oj h.day.pairs).live wi.0 wj.0 (sym wi.1 ∙ same ∙ wj.1));
      }

  row_at_place : (i : ℕ) → i < length all → (entry_at all i).row ≡ i + 1
  row_at_place i inside =
      let lt : i < length rows = omega (arith, inside, size) in
      elim (cases_lt i (length d.entries)) [
        | inl old ↦ ap (λ (e : Entry). e.row) (old_at i old) ∙ row_of_entry (i + 1) (row_at rows i) (slice_index_or assigned i None)
        | inr new ↦ ap (λ (e : Entry). e.row) (past_at i new lt) ∙ row_of_entry (i + 1) (row_at rows i) (slice_index_or assigned i None)
      ]

  old_reference : (i : ℕ) → i < length d.entries → (entry_at all i).reference ≡ (entry_at d.entries i).reference
  old_reference i old = ap (λ (e : Entry). e.reference) (old_at i old)

  new_reference : (i : ℕ) → length d.entries ≤ i → i < length rows → (entry_at all i).reference ≡ i + 1
  new_reference i new lt = ap (λ (e : Entry). e.reference) (past_at i new lt) ∙ reference_of_entry (i + 1) (row_at rows i) (slice_index_or assigned i None)

  reference_at : (i : ℕ) → i < length rows → IsCallReference (entry_at all i).reference
  reference_at i lt = elim (cases_lt i (length d.entries)) [
    | inl old ↦ subst IsCallReference (sym (old_reference i old)) (each_at Seated d.entries i old h.seated).reference
    | inr new ↦ (let own = new_reference i new lt in (omega (arith, own), omega (arith, own, lt, bookings.few)))
  ]

  seated_at : (i : ℕ) → i < length all → Seated (entry_at all i)
  seated_at i inside =
      let lt : i < length rows = omega (arith, inside, size) in
      let row = row_at_place i inside in
      record {
        row = (omega (arith, row), omega (arith, row, lt, bookings.few));
        reference = reference_at i lt;
        channel = λ accepted. subst IsChannel (sym (frame_at i lt).channel) (set.only (channel_at assigned i) (carries.in_service i lt (accepted_at i lt accepted)));
      }

  pub exchange_changed : IsExchange (changed rows assigned d)
  exchange_changed = record {
    moment = h.moment;
    rows = omega (arith, size, bookings.few);
    day = record { each = all_from (EntryFits d.moment) all fits_at; pairs = pairs_from Apart all apart_at };
    seated = all_from Seated all seated_at;
    numbered = row_at_place;
  }

  pub ordered_changed : (i : ℕ) → i < length all → (entry_at all i).booking.start < (entry_at all i).booking.end
  ordered_changed i inside =
      let lt : i < length rows = omega (arith, inside, size) in
      subst (λ (b : Row). b.start < b.end) (sym (frame_at i lt).booking) (in_order i lt)

  ahead_at : (i : ℕ) → i < length all → is_refused (entry_at all i).standing ≡ false → d.moment < (entry_at all i).booking.start → is_unoffered (entry_at all i).standing ≡ true
  ahead_at i inside accepted early =
      let lt : i < length rows = omega (arith, inside, size) in
      let start : (entry_at all i).booking.start ≡ (row_at rows i).start = ap (λ (b : Row). b.start) (frame_at i lt).booking in
      let later : d.moment < (row_at rows i).start = omega (arith, early, start) in
      elim (cases_lt i (length d.entries)) [
        | inl old ↦ (
            let is = old_at i old in
            ap (λ (e : Entry). is_unoffered e.standing) is ∙ waits_shared d.moment (i + 1) (entry_at d.entries i) (row_at rows i) (slice_index_or assigned i None) (shared_row i old) (s.ahead i old) later (ap (λ (e : Entry). is_refused e.standing) (sym is) ∙ accepted))
        | inr new ↦ (
            let is = past_at i new lt in
            ap (λ (e : Entry). is_unoffered e.standing) is ∙ waits_new (i + 1) (row_at rows i) (slice_index_or assigned i None) (ap (λ (e : Entry). is_refused e.standing) (sym is) ∙ accepted))
      ]

  holds_at : (c i : ℕ) → i < length d.entries → holds c (entry_at all i) ≡ holds c (entry_at d.entries i)
  holds_at c i old = ap (holds c) (at_past d.entries news i fewer old) ∙ holds_shared (d.moment + 1) c (entry_at d.entries i) (entry_at news i) (shared_place i old)

  pub slots_changed : (heads following' waiting' : List (Option ℕ)) → AreLinks all heads following' → AreEarliest all (length all) waiting' → AreSlots (changed rows assigned d) live waiting' following'
  slots_changed heads following' waiting' links anew = record {
    live_size = s.live_size;
    waiting_size = anew.size;
    after_size = links.after_size;
    lives = λ c. record {
      there = λ i is. (let p = (s.lives c).there i is in (omega (arith, p.0, size, x.longer), holds_at c i p.0 ∙ p.1));
      each = λ i inside held. (let old = live_old i inside (holds_parts c (entry_at all i) held).0 in (s.lives c).each i old (sym (holds_at c i old) ∙ held));
    };
    waits = λ c. earliest_waits all c (slot_at waiting' c) exchange_changed.day.pairs ordered_changed (anew.each c);
    followings = links.followings;
    ahead = ahead_at;
    ordered = ordered_changed;
  }

-- ---- the code

-- what is tested of a day, from its parts
pub tested : (d : Day) (rows : List Row) (assigned : List (Option ℕ)) (moment from : ℕ) (seen : List Entry) → moment ≡ d.moment → seen ≡ d.entries → from ≡ length d.entries → (length seen ≤ length rows) × ((i : ℕ) → i < length seen → AgreesAt moment (entry_at seen i) (row_at rows i) (slice_index_or assigned i None)) × (length seen < length rows → AreReferredByRow seen) → ((i : ℕ) → from ≤ i → i < length rows → IsAhead moment (row_at rows i) (slice_index_or assigned i None)) → AgreesWith d rows assigned
tested d rows assigned moment from seen at same count agrees later =
    let old = subst (λ (es : List Entry). (length es ≤ length rows) × ((i : ℕ) → i < length es → AgreesAt moment (entry_at es i) (row_at rows i) (slice_index_or assigned i None)) × (length es < length rows → AreReferredByRow es)) same agrees in
    record {
      longer = old.0;
      each = λ i lt. subst (λ t. AgreesAt t (entry_at d.entries i) (row_at rows i) (slice_index_or assigned i None)) at (old.1 i lt);
      later = λ i low lt. subst (λ t. IsAhead t (row_at rows i) (slice_index_or assigned i None)) at (later i (omega (arith, low, count)) lt);
      by_row = old.2;
    }

short_take : (k : ℕ) (es : List Entry) → length (take k es) ≤ length es
short_take zero es = omega arith
short_take (suc k) [] = omega arith
short_take (suc k) (e ∷ es) = let r = short_take k es in omega (arith, r)

-- the first k of these, put over the plan's
abbrev put_over : ℕ → List Entry → List Entry → List Entry
put_over k before es = with_past (take k before) (with_references (take k before) es)

put_next : (k : ℕ) (before es : List Entry) → k < length before → length before ≤ length es → slice_set (put_over k before es) k (changed_to (entry_at before k) (entry_at (put_over k before es) k)) ≡ put_over (suc k) before es
put_next k [] es lt le = absurd (omega (arith, lt))
put_next k (b ∷ bs) [] lt le = absurd (omega (arith, le))
put_next zero (b ∷ bs) (e ∷ es) lt le = refl
put_next (suc k) (b ∷ bs) (e ∷ es) lt le = ap (λ xs. changed_to b e ∷ xs) (put_next k bs es (omega (arith, lt)) (omega (arith, le)))

-- how many there are while what was is put
pub put_size : (k : ℕ) (before es now : List Entry) → length before ≤ length es → now ≡ with_past (take k before) (with_references (take k before) es) → length now ≡ length es
put_size k before es now le is =
    let s = short_take k before in
    let same = referred_size (take k before) es (omega (arith, le, s)) in
    ap length is ∙ past_size (take k before) (with_references (take k before) es) (omega (arith, le, s, same)) ∙ same

pub one_put : (k : ℕ) (before es now : List Entry) (e f : Entry) → k < length before → length before ≤ length es → e ≡ entry_at now k → f ≡ entry_at before k → now ≡ with_past (take k before) (with_references (take k before) es) → slice_set now k (changed_to f e) ≡ with_past (take (k + 1) before) (with_references (take (k + 1) before) es)
one_put k before es now e f lt le here there is =
    ap (λ x. slice_set now k (changed_to f x)) here
    ∙ ap (λ x. slice_set now k (changed_to x (entry_at now k))) there
    ∙ ap (λ xs. slice_set xs k (changed_to (entry_at before k) (entry_at xs k))) is
    ∙ put_next k before es lt le
    ∙ ap (λ n. put_over n before es) (let next : suc k ≡ k + 1 = omega arith in next)

-- the next one agrees too
pub one_more_agrees : (t k : ℕ) (es : List Entry) (rows : List Row) (assigned : List (Option ℕ)) (e : Entry) (b : Row) (a : Option ℕ) → ((i : ℕ) → i < k → AgreesAt t (entry_at es i) (row_at rows i) (slice_index_or assigned i None)) → e ≡ entry_at es k → b ≡ row_at rows k → a ≡ slice_index_or assigned k None → AgreesAt t e b a → (i : ℕ) → i < k + 1 → AgreesAt t (entry_at es i) (row_at rows i) (slice_index_or assigned i None)
one_more_agrees t k es rows assigned e b a before here row given agrees i lt = elim (cases_lt i k) [
  | inl less ↦ before i less
  | inr past ↦ (
      let last : k ≡ i = omega (arith, lt, past) in
      subst (λ n. AgreesAt t (entry_at es n) (row_at rows n) (slice_index_or assigned n None)) last
      (subst (λ o. AgreesAt t (entry_at es k) (row_at rows k) o) given (subst (λ (r : Row). AgreesAt t (entry_at es k) r a) row (subst (λ (x : Entry). AgreesAt t x b a) here agrees))))
]
