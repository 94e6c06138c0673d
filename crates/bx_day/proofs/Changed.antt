-- The day of another plan goes on as that of the plan before, where both agree on the past. A booking that is idle at the end was so at
-- each moment before: it held no channel, nothing was said for it, and no call was taken for it. So it may be another one in the other plan, as
-- long as that one is idle up to moment m too. What has begun is the same, but for an end that is yet to come.
use Rattle.bx_events.specs.declared.rules.Rules.TheVariants.{Two, Three}
use Rattle.bx_events.specs.declared.rules.Rules.{Rules}
use Rattle.std.proofs.Common.{◌≡◌, ℕ, zero, suc, ◌+◌, ◌≤◌, ◌<◌, ◌==◌, ◌⊎◌, ◌&&◌, ◌||◌, not, Bool, true, false, List, [], ◌∷◌, ◌++◌, map, flat_map, length, Option, Some, None, arith, refl, sym, subst, ap, ap₂, ◌∙◌, inl, inr, nat_le, nat_lt, slice_set, if◌then◌else◌, Result, Ok, Err}
use Rattle.std.specs.List.{AllByRecursion, list_any, position}
use Rattle.std.specs.Option.{option_map}
use Rattle.std.proofs.lemmas.Bool.{true≢false, false≢true, and_parts, false_from_ne_true, lt-ltb, cases_lt}
use Rattle.std.proofs.lemmas.List.Quantifiers.{position-Some}
use Rattle.bx_q931.specs.Outgoing.{Outgoing}
use Rattle.bx_q931.specs.Messages.{PlainMessage, message_at}
use Rattle.bx_q931.specs.declared.fault.MessageFault.{MessageFault}
use Rattle.bx_q931.specs.declared.reference.Reference.{Reference}
use Rattle.bx_q931.specs.declared.reference.Reference.TheVariants.{Dummy, Value}
use Rattle.bx_q931.specs.declared.kind.Kind.{Kind}
use Rattle.bx_q931.specs.declared.kind.Kind.TheVariants.{Setup}
use Rattle.bx_q931.specs.declared.channel_field.ChannelField.{ChannelField}
use Rattle.bx_q931.specs.declared.channel_field.ChannelField.TheVariants.{Named, Unread}
use Rattle.bx_base.specs.Bookings.{is_running}
use Rattle.bx_channels.specs.Marks.{is_marked}
use Rattle.bx_calls.specs.Said.{Said, said_under}
use Rattle.bx_calls.specs.Shared.{cons_some}
use Rattle.bx_calls.specs.Saying.{setup_of}
use Rattle.bx_calls.specs.Sending.{Sent, Answered, reply_list}
use Rattle.bx_calls.specs.PlainCalls.{PlainNetCall}
use Rattle.bx_calls.specs.NetTable.{net_second, net_unlinked, net_offered, net_is_clearing, net_disconnects, net_timer, net_to, net_later, net_message}
use Rattle.bx_calls.specs.declared.net_state.NetState.TheVariants.{DisconnectIndication}
use Rattle.bx_calls.specs.declared.transition.Next.{Next}
use Rattle.bx_calls.specs.declared.transition.Next.TheVariants.{Live, Over, Broken}
use Rattle.bx_events.specs.Events.{Event, Tick, Receive, LiveEvent, OnLink, WithoutLink, Amended, HeardByRulesTwo}
use Rattle.bx_day.specs.declared.entry.Activity.{Activity}
use Rattle.bx_day.specs.declared.entry.Activity.TheVariants.{Never, Since, Was}
use Rattle.bx_day.specs.declared.entry.Entry.{Entry}
use Rattle.bx_day.specs.declared.entry.Link.{Link}
use Rattle.bx_day.specs.declared.entry.Link.TheVariants.{Up, Down}
use Rattle.bx_day.specs.declared.entry.Moved.{Moved}
use Rattle.bx_day.specs.declared.entry.Standing.{Standing}
use Rattle.bx_day.specs.declared.entry.Standing.TheVariants.{Refused, Unoffered, OnCall, Missed}
use Rattle.bx_day.specs.Day.{is_back, Day, entry_at, no_entry, holds, is_held, is_free, is_live, is_unoffered, every_channel}
use Rattle.bx_day.specs.Invariant.{is_refused}
use Rattle.bx_day.specs.Moves.{becomes, stays, follow, follows, over_at}
use Rattle.bx_day.specs.Ticks.{unlinked_after, waits, second_by, second_in, after_in, said_in, breaks_in, maintained_in, passed_in, tick}
use Rattle.bx_day.specs.Receipts.{names, names_call, is_open, opens, or_else, lowest_open, with_moved, hears, takes_call, takes_or, takes_preferred, called_on, called, stray, received_at}
use Rattle.bx_day.specs.Run.{receive_from, receive_read, happens}
use Rattle.bx_day.specs.Outages.{without_link_by, live_happens, live_day_after}
use Rattle.bx_day.specs.Passing.{day_of}
use Rattle.bx_day.specs.Changed.{was_never_live, past_or_planned, with_past, said_at_each}
use Rattle.bx_day.proofs.Indices.{index_found, index_none, position_next}
use Rattle.bx_day.proofs.Law.{in_same}
use Rattle.bx_day.proofs.Once.{decide, each_at, none≢some}
use Rattle.bx_day.proofs.Quiet.{late}
use Rattle.bx_day.proofs.Receive.{OpenAt, open_parts, open_index, open_lowest}
use Rattle.bx_day.proofs.Resting.{Rests, IsToCome, rests_unheld, none_held, second_still}
use Rattle.bx_day.proofs.SlotLemmas.{some_is}
use Rattle.bx_day.proofs.Staying.{event_later, run_later}
use Rattle.bx_day.proofs.Tick.{with_standing, by_cases, offers, runs_at}

-- ---- bookings of both plans

-- the same booking on the same channel, but for an end that is not before moment m
pub record IsAlike (m : ℕ) (e n : Entry) : Type 0 where
  pub reference : n.reference ≡ e.reference
  pub start : n.booking.start ≡ e.booking.start
  pub end : (n.booking.end ≡ e.booking.end) ⊎ ((m ≤ e.booking.end) × (m ≤ n.booking.end))
  pub number : n.booking.number ≡ e.booking.number
  pub inward : n.booking.inward ≡ e.booking.inward
  pub channel : n.channel ≡ e.channel
  pub waits : n.standing ≡ Unoffered
  pub accepted : is_refused e.standing ≡ false

-- idle in both, or the same
abbrev pub IsShared : ℕ → Entry → Entry → Type 0
IsShared m e n = ((was_never_live e.standing ≡ true) × IsToCome m n) ⊎ IsAlike m e n

abbrev pub AreShared : ℕ → List Entry → List Entry → Type 0
AreShared m [] ns = AllByRecursion (IsToCome m) ns
AreShared m (e ∷ es) [] = ⊥
AreShared m (e ∷ es) (n ∷ ns) = IsShared m e n × AreShared m es ns

-- the new one with what has become of the old one
abbrev pub kept : Entry → Entry → Entry
kept e n = with_standing n (past_or_planned e.standing n.standing)

-- the same day with these entries, of which the first have what has become of its own
abbrev pub onto : List Entry → Day → Day
onto ns d = record d { entries = with_past d.entries ns }

-- ---- what has become of one

pub idle_far : (s s' : Standing) → was_never_live s ≡ true → past_or_planned s s' ≡ s'
idle_far s s' h = ap (λ b. if b then s' else s) h

pub busy_far : (s s' : Standing) → was_never_live s ≡ false → past_or_planned s s' ≡ s
busy_far s s' h = ap (λ b. if b then s' else s) h

waiting_far : (s : Standing) → is_refused s ≡ false → past_or_planned s Unoffered ≡ s
waiting_far Refused h = absurd (true≢false h)
waiting_far s h = refl

pub alike_far : (m : ℕ) (e n : Entry) → IsAlike m e n → past_or_planned e.standing n.standing ≡ e.standing
alike_far m e n h = ap (past_or_planned e.standing) h.waits ∙ waiting_far e.standing h.accepted

pub idle_kept : (e n : Entry) → was_never_live e.standing ≡ true → kept e n ≡ n
idle_kept e n h = ap (with_standing n) (idle_far e.standing n.standing h)

pub alike_kept : (m : ℕ) (e n : Entry) → IsAlike m e n → kept e n ≡ with_standing n e.standing
alike_kept m e n h = ap (with_standing n) (alike_far m e n h)

pub idle_unheld : (s : Standing) → was_never_live s ≡ true → is_live s ≡ false
idle_unheld Refused h = refl
idle_unheld Unoffered h = refl
idle_unheld s h = absurd (false≢true h)

pub live_busy : (s : Standing) → is_live s ≡ true → was_never_live s ≡ false
live_busy (OnCall c a) h = refl
live_busy s h = absurd (false≢true h)

pub live_accepted : (s : Standing) → is_live s ≡ true → is_refused s ≡ false
live_accepted (OnCall c a) h = refl
live_accepted s h = absurd (false≢true h)

over_busy : (a : Activity) (t : ℕ) → was_never_live (over_at a t) ≡ false
over_busy Never t = refl
over_busy (Since from) t = refl
over_busy (Was from until) t = refl

follow_busy : (a : Activity) (t : ℕ) (said : Option Outgoing) (next : Next PlainNetCall) → was_never_live (follow a t said next).standing ≡ false
follow_busy a t said (Live call) = refl
follow_busy a t said Over = over_busy a t
follow_busy a t said Broken = over_busy a t

never_idle : {P : Type 0} (s : Standing) → was_never_live s ≡ false → was_never_live s ≡ true → P
never_idle s busy idle = absurd (true≢false (sym idle ∙ busy))

waits_idle : (e : Entry) (t : ℕ) (back free : Bool) → was_never_live (waits e t back free).standing ≡ true → waits e t back free ≡ stays Unoffered
waits_idle e t back free =
    by_cases (offers e t free) _ _ (λ (k : Moved). was_never_live k.standing ≡ true → k ≡ stays Unoffered)
    (λ _ h. absurd (false≢true h))
    (λ _. by_cases (nat_le e.booking.end t) _ _ (λ (k : Moved). was_never_live k.standing ≡ true → k ≡ stays Unoffered)
    (λ _ h. absurd (false≢true h))
    (λ _ h. refl))

-- what is idle after a second was idle, and the second did nothing to it
second_idle : (link : Link) (e : Entry) (t : ℕ) (back free : Bool) (s : Standing) → was_never_live (second_by link e t back free s).standing ≡ true → second_by link e t back free s ≡ stays s
second_idle Up e t back free (OnCall c a) h = never_idle (follows a t (net_second c t e.booking.end)).standing (follow_busy a t (net_second c t e.booking.end).reply (net_second c t e.booking.end).next) h
second_idle Up e t back free Unoffered h = waits_idle e t back free h
second_idle (Down rules) e t back free (OnCall c a) h = never_idle (follows a t (net_unlinked rules 1 c t e.booking.end)).standing (follow_busy a t (net_unlinked rules 1 c t e.booking.end).reply (net_unlinked rules 1 c t e.booking.end).next) h
second_idle (Down rules) e t back free Unoffered h = waits_idle e t false false h
second_idle link e t back free s h = refl

hears_busy : (sm : Said) (t : ℕ) (s : Standing) → is_live s ≡ true → was_never_live (hears sm t s).standing ≡ false
hears_busy sm t (OnCall c a) h = follow_busy a t (net_message c sm.heard t).reply (net_message c sm.heard t).next
hears_busy sm t s h = absurd (false≢true h)

-- ---- channels are held as before

pub holds_shared : (m c : ℕ) (e n : Entry) → IsShared m e n → holds c (kept e n) ≡ holds c e
holds_shared m c e n h = elim h [
  | inl idle ↦ ap (holds c) (idle_kept e n idle.0) ∙ ap (λ b. b && (n.channel == c)) (rests_unheld m n.booking.start n.standing idle.1.rests) ∙ sym (ap (λ b. b && (e.channel == c)) (idle_unheld e.standing idle.0))
  | inr same ↦ ap (holds c) (alike_kept m e n same) ∙ ap (λ x. is_live e.standing && (x == c)) same.channel
]

held_shared : (m c : ℕ) (es ns : List Entry) → AreShared m es ns → is_held (with_past es ns) c ≡ is_held es c
held_shared m c [] ns h = none_held m c ns h
held_shared m c (e ∷ es) [] h = absurd h
held_shared m c (e ∷ es) (n ∷ ns) h = ap₂ (λ x y. x || y) (holds_shared m c e n h.0) (held_shared m c es ns h.1)

free_shared : (m c : ℕ) (d : Day) (ns : List Entry) → AreShared m d.entries ns → is_free (onto ns d) c ≡ is_free d c
free_shared m c d ns h = ap (λ b. not b && not (is_marked d.maintenance c)) (held_shared m c d.entries ns h)

-- ---- what a second does to one booking

ended_alike : (m t a b : ℕ) → (b ≡ a) ⊎ ((m ≤ a) × (m ≤ b)) → t < m → nat_le b t ≡ nat_le a t
ended_alike m t a b h early = elim h [
  | inl q ↦ ap (λ x. nat_le x t) q
  | inr p ↦ late b t (omega (arith, early, p.1)) ∙ sym (late a t (omega (arith, early, p.0)))
]

runs_alike : (m t a b : ℕ) → (b ≡ a) ⊎ ((m ≤ a) × (m ≤ b)) → t < m → nat_lt t b ≡ nat_lt t a
runs_alike m t a b h early = elim h [
  | inl q ↦ ap (λ x. nat_lt t x) q
  | inr p ↦ lt-ltb t b (omega (arith, early, p.1)) ∙ sym (lt-ltb t a (omega (arith, early, p.0)))
]

abbrev waits_of : Bool → Bool → Bool → Bool → List ℕ → ℕ → ℕ → ℕ → Bool → Bool → Moved
waits_of begun runs ended inward number row channel t back free =
    if (begun && runs) && not inward && free
    then becomes (OnCall (net_offered row channel number back t) Never) (Some (setup_of row channel number))
    else if ended then stays Missed else stays Unoffered

waits_alike : (m : ℕ) (e n : Entry) (s : Standing) (t : ℕ) (back free : Bool) → t < m → IsAlike m e n → waits (with_standing n s) t back free ≡ waits e t back free
waits_alike m e n s t back free early h =
    ap (λ x. waits_of (nat_le x t) (nat_lt t n.booking.end) (nat_le n.booking.end t) n.booking.inward n.booking.number n.reference n.channel t back free) h.start
    ∙ ap (λ x. waits_of (nat_le e.booking.start t) x (nat_le n.booking.end t) n.booking.inward n.booking.number n.reference n.channel t back free) (runs_alike m t e.booking.end n.booking.end h.end early)
    ∙ ap (λ x. waits_of (nat_le e.booking.start t) (nat_lt t e.booking.end) x n.booking.inward n.booking.number n.reference n.channel t back free) (ended_alike m t e.booking.end n.booking.end h.end early)
    ∙ ap (λ x. waits_of (nat_le e.booking.start t) (nat_lt t e.booking.end) (nat_le e.booking.end t) x n.booking.number n.reference n.channel t back free) h.inward
    ∙ ap (λ x. waits_of (nat_le e.booking.start t) (nat_lt t e.booking.end) (nat_le e.booking.end t) e.booking.inward x n.reference n.channel t back free) h.number
    ∙ ap (λ x. waits_of (nat_le e.booking.start t) (nat_lt t e.booking.end) (nat_le e.booking.end t) e.booking.inward e.booking.number x n.channel t back free) h.reference
    ∙ ap (λ x. waits_of (nat_le e.booking.start t) (nat_lt t e.booking.end) (nat_le e.booking.end t) e.booking.inward e.booking.number e.reference x t back free) h.channel

second_alike : (m : ℕ) (link : Link) (e n : Entry) (x : Standing) (t : ℕ) (back free : Bool) (s : Standing) → t < m → IsAlike m e n → second_by link (with_standing n x) t back free s ≡ second_by link e t back free s
second_alike m Up e n x t back free (OnCall c a) early h = ap (λ b. follows a t (if not (net_is_clearing c.state) && b then net_disconnects c 16 t else net_timer c t c.state)) (ended_alike m t e.booking.end n.booking.end h.end early)
second_alike m Up e n x t back free Unoffered early h = waits_alike m e n x t back free early h
second_alike m (Down rules) e n x t back free (OnCall c a) early h = ap (λ b. follows a t (if not (net_is_clearing c.state) && b then net_to c None (DisconnectIndication 16 (t + 1)) else net_to c None (net_later rules 1 t c.state))) (ended_alike m t e.booking.end n.booking.end h.end early)
second_alike m (Down rules) e n x t back free Unoffered early h = waits_alike m e n x t false false early h
second_alike m link e n x t back free s early h = refl

-- ---- what stood before a second, by what stands after it

one_before : (m : ℕ) (link : Link) (d : Day) (e n : Entry) → IsShared m (after_in link d e) n → IsShared m e n
one_before m link d e n h = elim h [
  | inl idle ↦ inl (ap (λ (k : Moved). was_never_live k.standing) (sym (second_idle link e (d.moment + 1) (is_back d) (is_free d e.channel) e.standing idle.0)) ∙ idle.0, idle.1)
  | inr same ↦ inr (record {
    reference = same.reference;
    start = same.start;
    end = same.end;
    number = same.number;
    inward = same.inward;
    channel = same.channel;
    waits = same.waits;
    accepted = sym (in_same link e (d.moment + 1) (is_back d) (is_free d e.channel) e.standing) ∙ same.accepted;
  })
]

shared_before : (m : ℕ) (link : Link) (d : Day) (es ns : List Entry) → AreShared m (map (after_in link d) es) ns → AreShared m es ns
shared_before m link d [] ns h = h
shared_before m link d (e ∷ es) [] h = absurd h
shared_before m link d (e ∷ es) (n ∷ ns) h = (one_before m link d e n h.0, shared_before m link d es ns h.1)

-- ---- a second before m, of a whole day

abbrev say : Bool → Option Outgoing → List Outgoing → List Outgoing
say b o rest = if b then cons_some o rest else rest

silent : (b : Bool) (rest : List Outgoing) → say b None rest ≡ rest
silent true rest = refl
silent false rest = refl

module _ (m : ℕ) (link : Link) (d : Day) (ns : List Entry) (before : AreShared m d.entries ns) (early : d.moment + 1 < m) where
  old_still : (e : Entry) → was_never_live (after_in link d e).standing ≡ true → second_in link d e ≡ stays e.standing
  old_still e idle = second_idle link e (d.moment + 1) (is_back d) (is_free d e.channel) e.standing idle

  new_still : (n : Entry) → IsToCome m n → second_in link (onto ns d) n ≡ stays n.standing
  new_still n h = second_still m link n (d.moment + 1) (is_back d) (is_free (onto ns d) n.channel) n.standing early h.rests h.order

  was_idle : (e : Entry) → was_never_live (after_in link d e).standing ≡ true → was_never_live e.standing ≡ true
  was_idle e idle = ap (λ (k : Moved). was_never_live k.standing) (sym (old_still e idle)) ∙ idle

  -- the same one does the same
  moved_alike : (e n : Entry) → IsAlike m (after_in link d e) n → second_in link (onto ns d) (kept e n) ≡ second_in link d e
  moved_alike e n h =
      let same : IsAlike m e n = record { reference = h.reference; start = h.start; end = h.end; number = h.number; inward = h.inward; channel = h.channel; waits = h.waits; accepted = sym (in_same link e (d.moment + 1) (is_back d) (is_free d e.channel) e.standing) ∙ h.accepted } in
      ap (second_in link (onto ns d)) (alike_kept m e n same)
      ∙ ap (λ b. second_by link (with_standing n e.standing) (d.moment + 1) (is_back d) b e.standing) (free_shared m n.channel d ns before ∙ ap (is_free d) h.channel)
      ∙ second_alike m link e n e.standing (d.moment + 1) (is_back d) (is_free d e.channel) e.standing early same

  -- an idle one, in either plan
  moved_idle : (e n : Entry) → was_never_live (after_in link d e).standing ≡ true → IsToCome m n → second_in link (onto ns d) (kept e n) ≡ stays n.standing
  moved_idle e n idle h = ap (second_in link (onto ns d)) (idle_kept e n (was_idle e idle)) ∙ new_still n h

  all_still : (xs : List Entry) → AllByRecursion (IsToCome m) xs → map (after_in link (onto ns d)) xs ≡ xs
  all_still [] h = refl
  all_still (x ∷ xs) h = ap₂ (λ (k : Moved) ys. with_standing x k.standing ∷ ys) (new_still x h.0) (all_still xs h.1)

  entry_onto : (e n : Entry) → IsShared m (after_in link d e) n → after_in link (onto ns d) (kept e n) ≡ kept (after_in link d e) n
  entry_onto e n h = elim h [
    | inl idle ↦ ap (λ (k : Moved). with_standing n k.standing) (moved_idle e n idle.0 idle.1) ∙ sym (idle_kept (after_in link d e) n idle.0)
    | inr same ↦ ap (λ (k : Moved). with_standing n k.standing) (moved_alike e n same) ∙ sym (alike_kept m (after_in link d e) n same)
  ]

  entries_onto : (es xs : List Entry) → AreShared m (map (after_in link d) es) xs → map (after_in link (onto ns d)) (with_past es xs) ≡ with_past (map (after_in link d) es) xs
  entries_onto [] xs h = all_still xs h
  entries_onto (e ∷ es) [] h = absurd h
  entries_onto (e ∷ es) (x ∷ xs) h = ap₂ (λ y ys. y ∷ ys) (entry_onto e x h.0) (entries_onto es xs h.1)

  -- no channel breaks by an idle one
  breaks_shared : (c : ℕ) (e n : Entry) → IsShared m (after_in link d e) n → breaks_in link (onto ns d) c (kept e n) ≡ breaks_in link d c e
  breaks_shared c e n h = elim h [
    | inl idle ↦ ap (λ (k : Moved). k.broken && (n.channel == c)) (moved_idle e n idle.0 idle.1) ∙ sym (ap (λ (k : Moved). k.broken && (e.channel == c)) (old_still e idle.0))
    | inr same ↦ ap₂ (λ (k : Moved) x. k.broken && (x == c)) (moved_alike e n same) same.channel
  ]

  none_breaks : (c : ℕ) (xs : List Entry) → AllByRecursion (IsToCome m) xs → list_any (breaks_in link (onto ns d) c) xs ≡ false
  none_breaks c [] h = refl
  none_breaks c (x ∷ xs) h = ap₂ (λ (k : Moved) b. (k.broken && (x.channel == c)) || b) (new_still x h.0) (none_breaks c xs h.1)

  breaks_onto : (c : ℕ) (es xs : List Entry) → AreShared m (map (after_in link d) es) xs → list_any (breaks_in link (onto ns d) c) (with_past es xs) ≡ list_any (breaks_in link d c) es
  breaks_onto c [] xs h = none_breaks c xs h
  breaks_onto c (e ∷ es) [] h = absurd h
  breaks_onto c (e ∷ es) (x ∷ xs) h = ap₂ (λ a b. a || b) (breaks_shared c e x h.0) (breaks_onto c es xs h.1)

  maintained_onto : (c : ℕ) (bs : List Bool) → AreShared m (map (after_in link d) d.entries) ns → maintained_in link (onto ns d) c bs ≡ maintained_in link d c bs
  maintained_onto c [] h = refl
  maintained_onto c (b ∷ bs) h = ap₂ (λ x xs. x ∷ xs) (ap (λ x. b || x) (breaks_onto c d.entries ns h)) (maintained_onto (c + 1) bs h)

  -- nothing is said for one
  none_said : (c : ℕ) (xs : List Entry) → AllByRecursion (IsToCome m) xs → said_in link (onto ns d) c xs ≡ []
  none_said c [] h = refl
  none_said c (x ∷ xs) h =
      ap (λ (k : Moved). say (x.channel == c) k.said (said_in link (onto ns d) c xs)) (new_still x h.0)
      ∙ silent (x.channel == c) (said_in link (onto ns d) c xs) ∙ none_said c xs h.1

  said_shared : (c : ℕ) (e n : Entry) (rest later : List Outgoing) → IsShared m (after_in link d e) n → later ≡ rest → say (n.channel == c) (second_in link (onto ns d) (kept e n)).said later ≡ say (e.channel == c) (second_in link d e).said rest
  said_shared c e n rest later h q = elim h [
    | inl idle ↦ ap (λ (k : Moved). say (n.channel == c) k.said later) (moved_idle e n idle.0 idle.1) ∙ silent (n.channel == c) later ∙ q
        ∙ sym (silent (e.channel == c) rest) ∙ sym (ap (λ (k : Moved). say (e.channel == c) k.said rest) (old_still e idle.0))
    | inr same ↦ ap (λ x. say (x == c) (second_in link (onto ns d) (kept e n)).said later) same.channel ∙ ap₂ (λ (k : Moved) os. say (e.channel == c) k.said os) (moved_alike e n same) q
  ]

  said_onto : (c : ℕ) (es xs : List Entry) → AreShared m (map (after_in link d) es) xs → said_in link (onto ns d) c (with_past es xs) ≡ said_in link d c es
  said_onto c [] xs h = none_said c xs h
  said_onto c (e ∷ es) [] h = absurd h
  said_onto c (e ∷ es) (x ∷ xs) h = said_shared c e x (said_in link d c es) (said_in link (onto ns d) c (with_past es xs)) h.0 (said_onto c es xs h.1)

  all_said : (cs : List ℕ) → AreShared m (map (after_in link d) d.entries) ns → flat_map (λ c. said_in link (onto ns d) c (with_past d.entries ns)) cs ≡ flat_map (λ c. said_in link d c d.entries) cs
  all_said [] h = refl
  all_said (c ∷ cs) h = ap₂ (λ xs ys. xs ++ ys) (said_onto c d.entries ns h) (all_said cs h)

-- ---- events: by what stands after one, the same day over these entries, and the same is sent

pub record Goes (m : ℕ) (ns : List Entry) (d : Day) (x x' : Sent Day) : Type 0 where
  pub day : x'.day ≡ onto ns x.day
  pub sent : x'.sent ≡ x.sent
  pub shared : AreShared m d.entries ns

passed_onto : (m : ℕ) (link : Link) (d : Day) (ns : List Entry) → AreShared m (map (after_in link d) d.entries) ns → d.moment + 1 < m → Goes m ns d (passed_in link d) (passed_in link (onto ns d))
passed_onto m link d ns after early =
    let before = shared_before m link d d.entries ns after in
    record {
      day = ap₂ (day_of (d.moment + 1) (unlinked_after link d.moment d.unlinked)) (entries_onto m link d ns before early d.entries ns after) (maintained_onto m link d ns before early 0 d.maintenance after);
      sent = all_said m link d ns before early every_channel after;
      shared = before;
    }

both : {X : Type 0} (b : Bool) (x y x' y' : X) (R : X → X → Type 0) → R x x' → R y y' → R (if b then x else y) (if b then x' else y')
both true x y x' y' R f g = f
both false x y x' y' R f g = g

tick_onto : (m : ℕ) (d : Day) (ns : List Entry) → AreShared m (tick d).day.entries ns → (tick d).day.moment < m → Goes m ns d (tick d) (tick (onto ns d))
tick_onto m d ns = both (nat_le 300000 d.moment) _ _ _ _ (λ (x x' : Sent Day). AreShared m x.day.entries ns → x.day.moment < m → Goes m ns d x x')
    (λ after _. record { day = refl; sent = refl; shared = after })
    (λ after early. passed_onto m Up d ns after early)

without_onto : (rules : Rules) (m : ℕ) (d : Day) (ns : List Entry) → AreShared m (without_link_by rules d).entries ns → (without_link_by rules d).moment < m → (without_link_by rules (onto ns d) ≡ onto ns (without_link_by rules d)) × AreShared m d.entries ns
without_onto rules m d ns = both (nat_le 300000 d.moment) _ _ _ _ (λ (x x' : Day). AreShared m x.entries ns → x.moment < m → (x' ≡ onto ns x) × AreShared m d.entries ns)
    (λ after _. (refl, after))
    (λ after early. let g = passed_onto m (Down rules) d ns after early in (g.day, g.shared))

-- ---- one booking of a list

pub shared_at : (m : ℕ) (es ns : List Entry) (i : ℕ) → AreShared m es ns → i < length es → IsShared m (entry_at es i) (entry_at ns i)
shared_at m [] ns i h lt = absurd (omega (arith, lt))
shared_at m (e ∷ es) [] i h lt = absurd h
shared_at m (e ∷ es) (n ∷ ns) zero h lt = h.0
shared_at m (e ∷ es) (n ∷ ns) (suc i) h lt = shared_at m es ns i h.1 (omega (arith, lt))

pub to_come_at : (m : ℕ) (es ns : List Entry) (i : ℕ) → AreShared m es ns → length es ≤ i → i < length ns → IsToCome m (entry_at ns i)
to_come_at m [] ns i h low lt = each_at (IsToCome m) ns i lt h
to_come_at m (e ∷ es) [] i h low lt = absurd h
to_come_at m (e ∷ es) (n ∷ ns) zero h low lt = absurd (omega (arith, low))
to_come_at m (e ∷ es) (n ∷ ns) (suc i) h low lt = to_come_at m es ns i h.1 (omega (arith, low)) (omega (arith, lt))

pub few_shared : (m : ℕ) (es ns : List Entry) → AreShared m es ns → length es ≤ length ns
few_shared m [] ns h = omega arith
few_shared m (e ∷ es) [] h = absurd h
few_shared m (e ∷ es) (n ∷ ns) h = let r = few_shared m es ns h.1 in omega (arith, r)

pub past_size : (es ns : List Entry) → length es ≤ length ns → length (with_past es ns) ≡ length ns
past_size [] ns le = refl
past_size (e ∷ es) [] le = absurd (omega (arith, le))
past_size (e ∷ es) (n ∷ ns) le = ap suc (past_size es ns (omega (arith, le)))

pub at_past : (es ns : List Entry) (i : ℕ) → length es ≤ length ns → i < length es → entry_at (with_past es ns) i ≡ kept (entry_at es i) (entry_at ns i)
at_past [] ns i le lt = absurd (omega (arith, lt))
at_past (e ∷ es) [] i le lt = absurd (omega (arith, le))
at_past (e ∷ es) (n ∷ ns) zero le lt = refl
at_past (e ∷ es) (n ∷ ns) (suc i) le lt = at_past es ns i (omega (arith, le)) (omega (arith, lt))

pub beyond_past : (es ns : List Entry) (i : ℕ) → length es ≤ length ns → length es ≤ i → entry_at (with_past es ns) i ≡ entry_at ns i
beyond_past [] ns i le low = refl
beyond_past (e ∷ es) [] i le low = absurd (omega (arith, le))
beyond_past (e ∷ es) (n ∷ ns) zero le low = absurd (omega (arith, low))
beyond_past (e ∷ es) (n ∷ ns) (suc i) le low = beyond_past es ns i (omega (arith, le)) (omega (arith, low))

-- the first that passes a test, where of both lists none passes that does not in the other
after_none : (test : Entry → Bool) (e : Entry) (es : List Entry) → position test (e ∷ es) ≡ None → (test e ≡ false) × (position test es ≡ None)
after_none test e es is = decide (test e)
    (λ yes. absurd (none≢some 0 (sym is ∙ position_next test e es ∙ ap (λ b. if b then Some 0 else option_map suc (position test es)) yes)))
    (λ other. (other, rest (position test es) refl (sym (ap (λ b. if b then Some 0 else option_map suc (position test es)) other) ∙ sym (position_next test e es) ∙ is)))
  where
    rest : (o : Option ℕ) → position test es ≡ o → option_map suc o ≡ None → position test es ≡ None
    rest None there h = there
    rest (Some i) there h = absurd (none≢some (suc i) (sym h))

none_passes : (test : Entry → Bool) (es : List Entry) → position test es ≡ None → (k : ℕ) → k < length es → test (entry_at es k) ≡ false
none_passes test [] is k lt = absurd (omega (arith, lt))
none_passes test (e ∷ es) is zero lt = (after_none test e es is).0
none_passes test (e ∷ es) is (suc k) lt = none_passes test es (after_none test e es is).1 k (omega (arith, lt))

module _ (m : ℕ) (f g : Entry → Bool) (es ns : List Entry) (h : AreShared m es ns) (fewer : (e n : Entry) → IsShared m e n → g e ≡ false → f (kept e n) ≡ false) (new : (n : Entry) → IsToCome m n → f n ≡ false) where
  le : length es ≤ length ns
  le = few_shared m es ns h

  fails_there : (k : ℕ) → k < length (with_past es ns) → (k < length es → g (entry_at es k) ≡ false) → f (entry_at (with_past es ns) k) ≡ false
  fails_there k lt old = elim (cases_lt k (length es)) [
    | inl inside ↦ ap f (at_past es ns k le inside) ∙ fewer (entry_at es k) (entry_at ns k) (shared_at m es ns k h inside) (old inside)
    | inr past ↦ ap f (beyond_past es ns k le past) ∙ new (entry_at ns k) (to_come_at m es ns k h past (let s = past_size es ns le in omega (arith, lt, s)))
  ]

  pub first_shared : (o : Option ℕ) → position g es ≡ o → ((i : ℕ) → o ≡ Some i → f (entry_at (with_past es ns) i) ≡ true) → position f (with_past es ns) ≡ o
  first_shared None is passes = index_none f (with_past es ns) (λ k lt. fails_there k lt (λ inside. none_passes g es is k inside))
  first_shared (Some i) is passes =
      let p = position-Some g es i no_entry is in
      let size = past_size es ns le in
      index_found f (with_past es ns) i (omega (arith, p.0, le, size)) (passes i refl) (λ k less. fails_there k (omega (arith, less, p.0, le, size)) (λ _. p.2 k less))

set_past : (es ns : List Entry) (i : ℕ) (s : Standing) → length es ≤ length ns → was_never_live s ≡ false → i < length es → slice_set (with_past es ns) i (with_standing (entry_at (with_past es ns) i) s) ≡ with_past (slice_set es i (with_standing (entry_at es i) s)) ns
set_past [] ns i s le busy lt = absurd (omega (arith, lt))
set_past (e ∷ es) [] i s le busy lt = absurd (omega (arith, le))
set_past (e ∷ es) (n ∷ ns) zero s le busy lt = ap (λ x. with_standing n x ∷ with_past es ns) (sym (busy_far s n.standing busy))
set_past (e ∷ es) (n ∷ ns) (suc i) s le busy lt = ap (λ xs. kept e n ∷ xs) (set_past es ns i s (omega (arith, le)) busy (omega (arith, lt)))

-- ---- what stood before a message, by what stands after it

alike_before : (m : ℕ) (e n : Entry) (s : Standing) → is_refused e.standing ≡ false → IsAlike m (with_standing e s) n → IsAlike m e n
alike_before m e n s accepted h = record { reference = h.reference; start = h.start; end = h.end; number = h.number; inward = h.inward; channel = h.channel; waits = h.waits; accepted = accepted }

set_alike : (m : ℕ) (es ns : List Entry) (i : ℕ) (s : Standing) → was_never_live s ≡ false → is_refused (entry_at es i).standing ≡ false → i < length es → AreShared m (slice_set es i (with_standing (entry_at es i) s)) ns → IsAlike m (entry_at es i) (entry_at ns i)
set_alike m [] ns i s busy accepted lt h = absurd (omega (arith, lt))
set_alike m (e ∷ es) [] zero s busy accepted lt h = absurd h
set_alike m (e ∷ es) [] (suc i) s busy accepted lt h = absurd h
set_alike m (e ∷ es) (n ∷ ns) zero s busy accepted lt h = elim h.0 [ inl idle ↦ never_idle s busy idle.0 | inr same ↦ alike_before m e n s accepted same ]
set_alike m (e ∷ es) (n ∷ ns) (suc i) s busy accepted lt h = set_alike m es ns i s busy accepted (omega (arith, lt)) h.1

set_before : (m : ℕ) (es ns : List Entry) (i : ℕ) (s : Standing) → was_never_live s ≡ false → is_refused (entry_at es i).standing ≡ false → i < length es → AreShared m (slice_set es i (with_standing (entry_at es i) s)) ns → AreShared m es ns
set_before m [] ns i s busy accepted lt h = absurd (omega (arith, lt))
set_before m (e ∷ es) [] zero s busy accepted lt h = absurd h
set_before m (e ∷ es) [] (suc i) s busy accepted lt h = absurd h
set_before m (e ∷ es) (n ∷ ns) zero s busy accepted lt h = (inr (elim h.0 [ inl idle ↦ never_idle s busy idle.0 | inr same ↦ alike_before m e n s accepted same ]), h.1)
set_before m (e ∷ es) (n ∷ ns) (suc i) s busy accepted lt h = (h.0, set_before m es ns i s busy accepted (omega (arith, lt)) h.1)

-- ---- a message

pub record Hears (m : ℕ) (ns : List Entry) (d : Day) (x x' : Answered Day) : Type 0 where
  pub day : x'.day ≡ onto ns x.day
  pub reply : x'.reply ≡ x.reply
  pub shared : AreShared m d.entries ns

module _ (m : ℕ) (d : Day) (ns : List Entry) (now : d.moment < m) where
  ignored : (reply : Option Outgoing) → AreShared m d.entries ns → Hears m ns d (record { day = d; reply = reply }) (record { day = onto ns d; reply = reply })
  ignored reply after = record { day = refl; reply = refl; shared = after }

  -- a booking of both did this
  moved_onto : (i : ℕ) (k k' : Moved) → i < length d.entries → was_never_live k.standing ≡ false → is_refused (entry_at d.entries i).standing ≡ false → AreShared m (with_moved d i k).day.entries ns → k' ≡ k → Hears m ns d (with_moved d i k) (with_moved (onto ns d) i k')
  moved_onto i k k' lt busy accepted after same =
      let before = set_before m d.entries ns i k.standing busy accepted lt after in
      let alike = set_alike m d.entries ns i k.standing busy accepted lt after in
      let le = few_shared m d.entries ns before in
      let channel : (entry_at (with_past d.entries ns) i).channel ≡ (entry_at d.entries i).channel = ap (λ (e : Entry). e.channel) (at_past d.entries ns i le lt) ∙ alike.channel in
      record {
        day = ap (λ (x : Moved). (with_moved (onto ns d) i x).day) same
            ∙ ap₂ (day_of d.moment d.unlinked) (set_past d.entries ns i k.standing le busy lt) (ap (λ c. if k.broken then slice_set d.maintenance c true else d.maintenance) channel);
        reply = ap (λ (x : Moved). x.said) same;
        shared = before;
      }

  -- ---- a call of the far end

  unoffered_inside : (es : List Entry) (i : ℕ) → is_unoffered (entry_at es i).standing ≡ true → i < length es
  unoffered_inside [] i h = absurd (false≢true h)
  unoffered_inside (e ∷ es) zero h = omega arith
  unoffered_inside (e ∷ es) (suc i) h = let r = unoffered_inside es i h in omega (arith, r)

  open_unoffered : (x : Day) (e : Entry) → is_open x e ≡ true → is_unoffered e.standing ≡ true
  open_unoffered x e h =
      let p = and_parts (is_unoffered e.standing && e.booking.inward && is_running e.booking x.moment) (is_free x e.channel) h in
      let q = and_parts (is_unoffered e.standing && e.booking.inward) (is_running e.booking x.moment) p.0 in
      (and_parts (is_unoffered e.standing) e.booking.inward q.0).0

  waiting_accepted : (s : Standing) → is_unoffered s ≡ true → is_refused s ≡ false
  waiting_accepted Unoffered h = refl
  waiting_accepted s h = absurd (false≢true h)

  unoffered_later : (start : ℕ) (s : Standing) → is_unoffered s ≡ true → Rests m start s → m ≤ start
  unoffered_later start Unoffered h rests = rests
  unoffered_later start s h rests = absurd (false≢true h)

  never_opens : (x : Day) (c : ℕ) (n : Entry) → x.moment ≡ d.moment → IsToCome m n → opens x c n ≡ false
  never_opens x c n at come = false_from_ne_true (opens x c n) (λ h.
      let o = (and_parts (is_open x n) (n.channel == c) h).0 in
      let r = runs_at n.booking x.moment (open_parts x n o).runs in
      let after = unoffered_later n.booking.start n.standing (open_unoffered x n o) come.rests in
      omega (arith, r.0, at, now, after))

  abbrev open_of : Bool → Bool → Bool → Bool → Bool → Bool → Bool
  open_of waits inward begun runs free here = (waits && inward && (begun && runs) && free) && here

  opens_alike : (c : ℕ) (e n : Entry) → AreShared m d.entries ns → IsAlike m e n → opens (onto ns d) c (kept e n) ≡ opens d c e
  opens_alike c e n before h =
      let w = is_unoffered e.standing in
      let t = d.moment in
      ap (opens (onto ns d) c) (alike_kept m e n h)
      ∙ ap (λ x. open_of w x (nat_le n.booking.start t) (nat_lt t n.booking.end) (is_free (onto ns d) n.channel) (n.channel == c)) h.inward
      ∙ ap (λ x. open_of w e.booking.inward (nat_le x t) (nat_lt t n.booking.end) (is_free (onto ns d) n.channel) (n.channel == c)) h.start
      ∙ ap (λ x. open_of w e.booking.inward (nat_le e.booking.start t) x (is_free (onto ns d) n.channel) (n.channel == c)) (runs_alike m t e.booking.end n.booking.end h.end now)
      ∙ ap (λ x. open_of w e.booking.inward (nat_le e.booking.start t) (nat_lt t e.booking.end) x (n.channel == c)) (free_shared m n.channel d ns before ∙ ap (is_free d) h.channel)
      ∙ ap (λ x. open_of w e.booking.inward (nat_le e.booking.start t) (nat_lt t e.booking.end) (is_free d e.channel) (x == c)) h.channel

  fewer_open : (c : ℕ) → AreShared m d.entries ns → (e n : Entry) → IsShared m e n → opens d c e ≡ false → opens (onto ns d) c (kept e n) ≡ false
  fewer_open c before e n h closed = elim h [
    | inl idle ↦ ap (opens (onto ns d) c) (idle_kept e n idle.0) ∙ never_opens (onto ns d) c n refl idle.1
    | inr same ↦ opens_alike c e n before same ∙ closed
  ]

  -- the booking that is taken is one of both
  abbrev IsTaken : Option ℕ → Type 0
  IsTaken o = (i : ℕ) → o ≡ Some i → (i < length d.entries) × IsAlike m (entry_at d.entries i) (entry_at ns i)

  opens_onto : (c : ℕ) (o : Option ℕ) → AreShared m d.entries ns → position (opens d c) d.entries ≡ o → IsTaken o → position (opens (onto ns d) c) (with_past d.entries ns) ≡ o
  opens_onto c o before is taken = first_shared m (opens (onto ns d) c) (opens d c) d.entries ns before (fewer_open c before) (λ n h. never_opens (onto ns d) c n refl h) o is (λ i q.
      let t = taken i q in
      ap (opens (onto ns d) c) (at_past d.entries ns i (few_shared m d.entries ns before) t.0) ∙ opens_alike c (entry_at d.entries i) (entry_at ns i) before t.1
      ∙ (position-Some (opens d c) d.entries i no_entry (is ∙ q)).1)

  lowest_by : (c : ℕ) (cs : List ℕ) (o p : Option ℕ) → AreShared m d.entries ns → lowest_open d (c ∷ cs) ≡ o → IsTaken o → position (opens d c) d.entries ≡ p → (lowest_open d cs ≡ o → lowest_open (onto ns d) cs ≡ o) → lowest_open (onto ns d) (c ∷ cs) ≡ o
  lowest_by c cs o None before is taken there rest =
      ap (λ x. or_else x (lowest_open (onto ns d) cs)) (opens_onto c None before there (λ i q. absurd (none≢some i q)))
      ∙ rest (sym (ap (λ x. or_else x (lowest_open d cs)) there) ∙ is)
  lowest_by c cs o (Some i) before is taken there rest =
      let here : Some i ≡ o = sym (ap (λ x. or_else x (lowest_open d cs)) there) ∙ is in
      ap (λ x. or_else x (lowest_open (onto ns d) cs)) (opens_onto c (Some i) before there (λ j q. taken j (sym here ∙ q))) ∙ here

  lowest_onto : (cs : List ℕ) (o : Option ℕ) → AreShared m d.entries ns → lowest_open d cs ≡ o → IsTaken o → lowest_open (onto ns d) cs ≡ o
  lowest_onto [] o before is taken = is
  lowest_onto (c ∷ cs) o before is taken = lowest_by c cs o (position (opens d c) d.entries) before is taken refl (λ later. lowest_onto cs o before later taken)

  takes_onto : (sm : Said) (cause : ℕ) (o : Option ℕ) → OpenAt d o → AreShared m (takes_or d sm cause o).day.entries ns → Hears m ns d (takes_or d sm cause o) (takes_or (onto ns d) sm cause o) × IsTaken o
  takes_onto sm cause None h after = (ignored _ after, λ i q. absurd (none≢some i q))
  takes_onto sm cause (Some i) h after =
      let e = entry_at d.entries i in
      let waits = open_unoffered d e h in
      let lt : i < length d.entries = unoffered_inside d.entries i waits in
      let accepted = waiting_accepted e.standing waits in
      let before = set_before m d.entries ns i (takes_call sm e).standing refl accepted lt after in
      let alike = set_alike m d.entries ns i (takes_call sm e).standing refl accepted lt after in
      let channel : (entry_at (with_past d.entries ns) i).channel ≡ e.channel = ap (λ (x : Entry). x.channel) (at_past d.entries ns i (few_shared m d.entries ns before) lt) ∙ alike.channel in (
        moved_onto i (takes_call sm e) (takes_call sm (entry_at (with_past d.entries ns) i)) lt refl accepted after (ap (λ c. takes_call sm (record no_entry { channel = c })) channel),
        (λ j q. subst (λ k. (k < length d.entries) × IsAlike m (entry_at d.entries k) (entry_at ns k)) (some_is i j q) (lt, alike)),
      )

  -- by an index that is the same in both
  takes_by : (sm : Said) (cause : ℕ) (o o' : Option ℕ) → o' ≡ o → Hears m ns d (takes_or d sm cause o) (takes_or (onto ns d) sm cause o) → Hears m ns d (takes_or d sm cause o) (takes_or (onto ns d) sm cause o')
  takes_by sm cause o o' same h = subst (λ x. Hears m ns d (takes_or d sm cause o) (takes_or (onto ns d) sm cause x)) (sym same) h

  lowest_takes : (sm : Said) → AreShared m (takes_or d sm 34 (lowest_open d every_channel)).day.entries ns → Hears m ns d (takes_or d sm 34 (lowest_open d every_channel)) (takes_or (onto ns d) sm 34 (lowest_open (onto ns d) every_channel))
  lowest_takes sm after =
      let o = lowest_open d every_channel in
      let h = takes_onto sm 34 o (open_lowest d every_channel) after in
      takes_by sm 34 o (lowest_open (onto ns d) every_channel) (lowest_onto every_channel o h.0.shared refl h.1) h.0

  named_takes : (sm : Said) (c : ℕ) → AreShared m (takes_or d sm 44 (position (opens d c) d.entries)).day.entries ns → Hears m ns d (takes_or d sm 44 (position (opens d c) d.entries)) (takes_or (onto ns d) sm 44 (position (opens (onto ns d) c) (with_past d.entries ns)))
  named_takes sm c after =
      let o = position (opens d c) d.entries in
      let h = takes_onto sm 44 o (open_index d c) after in
      takes_by sm 44 o (position (opens (onto ns d) c) (with_past d.entries ns)) (opens_onto c o h.0.shared refl h.1) h.0

  preferred_onto : (sm : Said) (c : ℕ) (o : Option ℕ) → position (opens d c) d.entries ≡ o → OpenAt d o → AreShared m (takes_preferred d sm o).day.entries ns → Hears m ns d (takes_preferred d sm o) (takes_preferred (onto ns d) sm (position (opens (onto ns d) c) (with_past d.entries ns)))
  preferred_onto sm c None is op after =
      let h = lowest_takes sm after in
      subst (λ x. Hears m ns d (takes_preferred d sm None) (takes_preferred (onto ns d) sm x)) (sym (opens_onto c None h.shared is (λ i q. absurd (none≢some i q)))) h
  preferred_onto sm c (Some i) is op after =
      let h = takes_onto sm 34 (Some i) op after in
      subst (λ x. Hears m ns d (takes_preferred d sm (Some i)) (takes_preferred (onto ns d) sm x)) (sym (opens_onto c (Some i) h.0.shared is h.1)) h.0

  on_onto : (sm : Said) (f : ChannelField) → AreShared m (called_on d sm f).day.entries ns → Hears m ns d (called_on d sm f) (called_on (onto ns d) sm f)
  on_onto sm Unread after = ignored _ after
  on_onto sm (Named c true) after = named_takes sm c after
  on_onto sm (Named c false) after = preferred_onto sm c (position (opens d c) d.entries) refl (open_index d c) after
  on_onto sm f after = lowest_takes sm after

  called_onto : (sm : Said) (refused : Option ℕ) → AreShared m (called d sm refused).day.entries ns → Hears m ns d (called d sm refused) (called (onto ns d) sm refused)
  called_onto sm (Some cause) after = ignored _ after
  called_onto sm None after = on_onto sm sm.heard.channel after

  stray_onto : (sm : Said) (k : Kind) → AreShared m (stray d sm k).day.entries ns → Hears m ns d (stray d sm k) (stray (onto ns d) sm k)
  stray_onto sm Setup = both sm.flag _ _ _ _ (λ (x x' : Answered Day). AreShared m x.day.entries ns → Hears m ns d x x') (λ after. ignored None after) (λ after. called_onto sm sm.refused after)
  stray_onto sm k = λ after. ignored _ after

  -- ---- a message of a call

  named_live : (sm : Said) (s : Standing) → names_call sm s ≡ true → is_live s ≡ true
  named_live sm (OnCall c a) h = refl
  named_live sm s h = absurd (false≢true h)

  unnamed : (sm : Said) (s : Standing) → is_live s ≡ false → names_call sm s ≡ false
  unnamed sm s h = false_from_ne_true (names_call sm s) (λ t. true≢false (sym (named_live sm s t) ∙ h))

  fewer_named : (sm : Said) (e n : Entry) → IsShared m e n → names sm e ≡ false → names sm (kept e n) ≡ false
  fewer_named sm e n h other = elim h [
    | inl idle ↦ ap (names sm) (idle_kept e n idle.0) ∙ unnamed sm n.standing (rests_unheld m n.booking.start n.standing idle.1.rests)
    | inr same ↦ ap (names sm) (alike_kept m e n same) ∙ other
  ]

  received_onto : (sm : Said) (o : Option ℕ) → position (names sm) d.entries ≡ o → AreShared m (received_at d sm o).day.entries ns → Hears m ns d (received_at d sm o) (received_at (onto ns d) sm (position (names sm) (with_past d.entries ns)))
  received_onto sm None is after =
      let h = stray_onto sm sm.heard.kind after in
      subst (λ x. Hears m ns d (stray d sm sm.heard.kind) (received_at (onto ns d) sm x))
      (sym (first_shared m (names sm) (names sm) d.entries ns h.shared (fewer_named sm) (λ n r. unnamed sm n.standing (rests_unheld m n.booking.start n.standing r.rests)) None is (λ i q. absurd (none≢some i q)))) h
  received_onto sm (Some i) is after =
      let p = position-Some (names sm) d.entries i no_entry is in
      let e = entry_at d.entries i in
      let lives = named_live sm e.standing p.1 in
      let busy = hears_busy sm d.moment e.standing lives in
      let accepted = live_accepted e.standing lives in
      let before = set_before m d.entries ns i (hears sm d.moment e.standing).standing busy accepted p.0 after in
      let is_there = at_past d.entries ns i (few_shared m d.entries ns before) p.0 in
      let standing : (entry_at (with_past d.entries ns) i).standing ≡ e.standing = ap (λ (x : Entry). x.standing) is_there ∙ busy_far e.standing (entry_at ns i).standing (live_busy e.standing lives) in
      let h = moved_onto i (hears sm d.moment e.standing) (hears sm d.moment (entry_at (with_past d.entries ns) i).standing) p.0 busy accepted after (ap (hears sm d.moment) standing) in
      subst (λ x. Hears m ns d (received_at d sm (Some i)) (received_at (onto ns d) sm x))
      (sym (first_shared m (names sm) (names sm) d.entries ns before (fewer_named sm) (λ n r. unnamed sm n.standing (rests_unheld m n.booking.start n.standing r.rests)) (Some i) is (λ j q. subst (λ k. names sm (entry_at (with_past d.entries ns) k) ≡ true) (some_is i j q) (ap (names_call sm) standing ∙ p.1)))) h

  from_onto : (u : Rules) (pm : PlainMessage) (r : Reference) → AreShared m (receive_from u d pm r).day.entries ns → Hears m ns d (receive_from u d pm r) (receive_from u (onto ns d) pm r)
  from_onto u pm Dummy = λ after. ignored None after
  from_onto u pm (Value value flag) = both (value == 0) _ _ _ _ (λ (x x' : Answered Day). AreShared m x.day.entries ns → Hears m ns d x x') (λ after. ignored None after) (λ after. received_onto (said_under u value flag pm) (position (names (said_under u value flag pm)) d.entries) refl after)

  read_onto : (u : Rules) (r : Result PlainMessage MessageFault) → AreShared m (receive_read u d r).day.entries ns → Hears m ns d (receive_read u d r) (receive_read u (onto ns d) r)
  read_onto u (Err fault) after = ignored None after
  read_onto u (Ok pm) after = from_onto u pm pm.reference after

  happens_onto : (e : Event) → AreShared m (happens d e).day.entries ns → (happens d e).day.moment < m → Goes m ns d (happens d e) (happens (onto ns d) e)
  happens_onto Tick after early = tick_onto m d ns after early
  happens_onto (Receive octets) after early = let h = read_onto Three (message_at octets) after in record { day = h.day; sent = ap reply_list h.reply; shared = h.shared }

  event_onto : (e : LiveEvent) → AreShared m (live_happens d e).day.entries ns → (live_happens d e).day.moment < m → Goes m ns d (live_happens d e) (live_happens (onto ns d) e)
  event_onto (OnLink e) after early = happens_onto e after early
  event_onto (WithoutLink rules) after early = let h = without_onto rules m d ns after early in record { day = h.0; sent = refl; shared = h.1 }
  event_onto (Amended kind line) after early = record { day = refl; sent = refl; shared = after }
  event_onto (HeardByRulesTwo octets) after early = let h = read_onto Two (message_at octets) after in record { day = h.day; sent = ap reply_list h.reply; shared = h.shared }

-- ---- a run, from its end on

pub record GoesThere (m : ℕ) (ns : List Entry) (events : List LiveEvent) (d : Day) : Type 0 where
  pub day : live_day_after events (onto ns d) ≡ onto ns (live_day_after events d)
  pub said : said_at_each events (onto ns d) ≡ said_at_each events d
  pub shared : AreShared m d.entries ns

pub run_onto : (m : ℕ) (events : List LiveEvent) (d : Day) (ns : List Entry) → AreShared m (live_day_after events d).entries ns → (live_day_after events d).moment < m → GoesThere m ns events d
run_onto m [] d ns after before = record { day = refl; said = refl; shared = after }
run_onto m (e ∷ es) d ns after before =
    let r = run_onto m es (live_happens d e).day ns after before in
    let rest = run_later es (live_happens d e).day in
    let here : d.moment ≤ (live_happens d e).day.moment = event_later d e in
    let g = event_onto m d ns (omega (arith, here, rest, before)) e r.shared (omega (arith, rest, before)) in
    record {
      day = ap (live_day_after es) g.day ∙ r.day;
      said = ap₂ (λ x xs. x ∷ xs) g.sent (ap (said_at_each es) g.day ∙ r.said);
      shared = g.shared;
    }
