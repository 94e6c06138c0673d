-- One call per channel: the opening day, every event, and what that says.
use Rattle.bx_events.specs.declared.rules.Rules.TheVariants.{Two, Three}
use Rattle.bx_events.specs.declared.rules.Rules.{Rules}
use Rattle.std.proofs.Common.{◌≡◌, ◌≢◌, ℕ, zero, suc, ◌+◌, ◌≤◌, ◌<◌, not, Bool, true, false, List, [], ◌∷◌, map, length, Option, Some, None, arith, refl, sym, subst, ap, ◌∙◌, slice_set, slice_index_or, nat_le, nat_lt, ◌==◌, Result, Ok, Err}
use Rattle.std.specs.Prelude.{is_some}
use Rattle.std.specs.Option.{unwrap_or}
use Rattle.std.specs.List.{AllByRecursion, position}
use Rattle.std.proofs.lemmas.Bool.{false≢true, true≢false, and_from, le-leb, lt-ltb}
use Rattle.bx_q931.specs.declared.kind.Kind.{Kind}
use Rattle.bx_q931.specs.declared.kind.Kind.TheVariants.{Setup}
use Rattle.bx_q931.specs.declared.channel_field.ChannelField.{ChannelField}
use Rattle.bx_q931.specs.declared.channel_field.ChannelField.TheVariants.{Named, Unread}
use Rattle.bx_calls.specs.PlainCalls.{PlainNetCall}
use Rattle.bx_calls.specs.declared.net_state.NetState.{NetState}
use Rattle.bx_calls.specs.declared.times.Times.TheVariants.{NotYet, Once, Twice}
use Rattle.bx_calls.specs.declared.net_state.NetState.TheVariants.{DisconnectIndication, ReleaseRequest}
use Rattle.bx_calls.specs.NetTable.{net_message, net_second, net_unlinked}
use Rattle.bx_base.specs.Bookings.{Row, row_at, is_running, AreBookings, Carries}
use Rattle.bx_base.specs.Plans.{is_accepted, channel_at}
use Rattle.bx_calls.specs.Said.{Said, said_under}
use Rattle.bx_day.specs.declared.entry.Activity.{Activity}
use Rattle.bx_day.specs.declared.entry.Standing.{Standing}
use Rattle.bx_day.specs.declared.entry.Standing.TheVariants.{Unoffered, OnCall, Carried}
use Rattle.bx_day.specs.declared.entry.Entry.{Entry}
use Rattle.bx_day.specs.declared.entry.Moved.{Moved}
use Rattle.bx_day.specs.declared.entry.Link.{Link}
use Rattle.bx_day.specs.declared.entry.Link.TheVariants.{Up, Down}
use Rattle.bx_day.specs.Moves.{is_active}
use Rattle.bx_day.specs.Day.{is_back, Day, entry_at, no_entry, opening, entry_of, entries_from, is_free, is_live, every_channel}
use Rattle.bx_day.specs.Ticks.{after_in, second_at, second_by, waits, tick, passed_in}
use Rattle.bx_day.specs.Receipts.{hears, takes_call, takes_or, takes_preferred, called_on, called, stray, received_at, receive, opens, lowest_open, names, with_moved}
use Rattle.bx_calls.specs.Sending.{Sent, Answered}
use Rattle.bx_events.specs.Events.{Event, Tick, Receive, LiveEvent, OnLink, WithoutLink, Amended, HeardByRulesTwo}
use Rattle.bx_day.specs.Outages.{Lost, without_link_by, live_happens, live_day_after}
use Rattle.bx_day.specs.Run.{receive_from, receive_read, happens, day_after}
use Rattle.bx_q931.specs.Messages.{PlainMessage, message_at}
use Rattle.bx_q931.specs.declared.reference.Reference.{Reference}
use Rattle.bx_q931.specs.declared.reference.Reference.TheVariants.{Dummy, Value}
use Rattle.bx_q931.specs.declared.fault.MessageFault.{MessageFault}
use Rattle.bx_day.specs.Changed.{AreReferredByRow}
use Rattle.bx_day.specs.Invariant.{EntryFits, StandingFits, CallFits, Apart, Pairs, DayFits, is_refused, phase_of, PhaseFits, DueFits}
use Rattle.bx_day.specs.Clearing.{added, ClearsBy, StandingClears, EntryClears, DayClears}
use Rattle.bx_day.specs.Law.{OnLive, OnCarried, standing_at, IsOrderly}
use Rattle.bx_day.proofs.Once.{each_at}
use Rattle.bx_day.proofs.Sent.{Placed}
use Rattle.bx_day.proofs.Tick.{by_cases, unlinked, without_fits, with_standing, offers, tick_fits, follow_refused}
use Rattle.bx_day.proofs.Receive.{receive_fits, all_at, apart_none, OpenAt, open_parts, open_index, open_lowest}

-- the opening day
opening_each : (k : ℕ) (rows : List Row) (assigned : List (Option ℕ)) → ((i : ℕ) → i < length rows → (row_at rows i).start < (row_at rows i).end) → AllByRecursion (EntryFits 0) (entries_from k rows assigned)
opening_each k [] assigned h = tt
opening_each k (b ∷ bs) [] h = (tt, opening_each (k + 1) bs [] (λ i lt. h (suc i) (omega arith)))
opening_each k (b ∷ bs) (None ∷ as') h = (tt, opening_each (k + 1) bs as' (λ i lt. h (suc i) (omega arith)))
opening_each k (b ∷ bs) (Some c ∷ as') h = (first (h 0 (omega arith)), opening_each (k + 1) bs as' (λ i lt. h (suc i) (omega arith)))
  where
    first : b.start < b.end → 0 < b.end
    first lt = omega arith

abbrev AreApart : Row → Option ℕ → Row → Option ℕ → Type 0
AreApart b a b' a' = (t : ℕ) → is_some a ≡ true → is_some a' ≡ true → is_running b t ≡ true → is_running b' t ≡ true → unwrap_or a 0 ≢ unwrap_or a' 0

two_apart : (k l : ℕ) (b b' : Row) (a a' : Option ℕ) → AreApart b a b' a' → Apart (entry_of k b a) (entry_of l b' a')
two_apart k l b b' None a' h = record { planned = λ re rf. absurd (true≢false re); live = λ le lf. absurd (false≢true le) }
two_apart k l b b' (Some c) None h = record { planned = λ re rf. absurd (true≢false rf); live = λ le lf. absurd (false≢true le) }
two_apart k l b b' (Some c) (Some c') h = record { planned = λ re rf same t r r'. h t refl refl r r' same; live = λ le lf. absurd (false≢true le) }

head_apart : (k l : ℕ) (b : Row) (a : Option ℕ) (bs : List Row) (as' : List (Option ℕ)) → ((j : ℕ) → j < length bs → AreApart b a (row_at bs j) (slice_index_or as' j None)) → AllByRecursion (Apart (entry_of k b a)) (entries_from l bs as')
head_apart k l b a [] as' h = tt
head_apart k l b a (b' ∷ bs) [] h = (two_apart k l b b' a None (h 0 (omega arith)), head_apart k (l + 1) b a bs [] (λ j lt. h (suc j) (omega arith)))
head_apart k l b a (b' ∷ bs) (a' ∷ as') h = (two_apart k l b b' a a' (h 0 (omega arith)), head_apart k (l + 1) b a bs as' (λ j lt. h (suc j) (omega arith)))

abbrev AllApart : List Row → List (Option ℕ) → Type 0
AllApart rows assigned = (i j : ℕ) → i < j → j < length rows → AreApart (row_at rows i) (slice_index_or assigned i None) (row_at rows j) (slice_index_or assigned j None)

opening_pairs : (k : ℕ) (rows : List Row) (assigned : List (Option ℕ)) → AllApart rows assigned → Pairs Apart (entries_from k rows assigned)
opening_pairs k [] assigned h = tt
opening_pairs k (b ∷ bs) [] h = (head_apart k (k + 1) b None bs [] (λ j lt. h 0 (suc j) (omega arith) (omega arith)), opening_pairs (k + 1) bs [] (λ i j lt le. h (suc i) (suc j) (omega arith) (omega arith)))
opening_pairs k (b ∷ bs) (a ∷ as') h = (head_apart k (k + 1) b a bs as' (λ j lt. h 0 (suc j) (omega arith) (omega arith)), opening_pairs (k + 1) bs as' (λ i j lt le. h (suc i) (suc j) (omega arith) (omega arith)))

pub opening_fits : (rows : List Row) (channels : List Bool) (assigned : List (Option ℕ)) → AreBookings rows → Carries rows channels (is_accepted assigned) (channel_at assigned) → DayFits (opening rows assigned)
opening_fits rows channels assigned b h = record { each = opening_each 1 rows assigned (λ i lt. (b.each i lt).in_order); pairs = opening_pairs 1 rows assigned (λ i j lt le t a a' r r'. h.apart i j lt le a a' (t, r, r')) }

-- what no event changes of a booking
pub record IsFrame (b : Row) (a : Option ℕ) (e : Entry) : Type 0 where
  pub booking : e.booking ≡ b
  pub channel : e.channel ≡ unwrap_or a 0
  pub accepted : is_refused e.standing ≡ not (is_some a)

abbrev pub Framed : List Row → List (Option ℕ) → Day → Type 0
Framed rows assigned d = ((i : ℕ) → i < length rows → IsFrame (row_at rows i) (slice_index_or assigned i None) (entry_at d.entries i)) × AllByRecursion (Placed rows assigned) d.entries

pub frame_of : (k : ℕ) (b : Row) (a : Option ℕ) → IsFrame b a (entry_of k b a)
frame_of k b None = record { booking = refl; channel = refl; accepted = refl }
frame_of k b (Some c) = record { booking = refl; channel = refl; accepted = refl }

pub opening_framed : (k : ℕ) (rows : List Row) (assigned : List (Option ℕ)) (i : ℕ) → i < length rows → IsFrame (row_at rows i) (slice_index_or assigned i None) (entry_at (entries_from k rows assigned) i)
opening_framed k [] assigned i lt = absurd (omega arith)
opening_framed k (b ∷ bs) [] zero lt = frame_of k b None
opening_framed k (b ∷ bs) [] (suc i) lt = opening_framed (k + 1) bs [] i (omega arith)
opening_framed k (b ∷ bs) (a ∷ as') zero lt = frame_of k b a
opening_framed k (b ∷ bs) (a ∷ as') (suc i) lt = opening_framed (k + 1) bs as' i (omega arith)

waits_refused : (e : Entry) (t : ℕ) (back free : Bool) → is_refused (waits e t back free).standing ≡ false
waits_refused e t back free = by_cases (offers e t free) _ _ (λ (m : Moved). is_refused m.standing ≡ false) (λ _. refl) (λ _. by_cases (nat_le e.booking.end t) _ _ (λ (m : Moved). is_refused m.standing ≡ false) (λ _. refl) (λ _. refl))

pub second_same : (e : Entry) (t : ℕ) (back free : Bool) (s : Standing) → is_refused (second_at e t back free s).standing ≡ is_refused s
second_same e t back free Unoffered = waits_refused e t back free
second_same e t back free (OnCall c a) = follow_refused a t (net_second c t e.booking.end).reply (net_second c t e.booking.end).next
second_same e t back free s = refl

pub in_same : (link : Link) (e : Entry) (t : ℕ) (back free : Bool) (s : Standing) → is_refused (second_by link e t back free s).standing ≡ is_refused s
in_same Up e t back free s = second_same e t back free s
in_same (Down rules) e t back free s = unlinked rules e t s (λ m. is_refused m.standing ≡ is_refused s) (λ c a p. follow_refused a t (net_unlinked rules 1 c t e.booking.end).reply (net_unlinked rules 1 c t e.booking.end).next ∙ sym (ap is_refused p)) (second_same e t false false s)

pub hears_same : (m : Said) (t : ℕ) (s : Standing) → is_refused (hears m t s).standing ≡ is_refused s
hears_same m t (OnCall c a) = follow_refused a t (net_message c m.heard t).reply (net_message c m.heard t).next
hears_same m t s = refl

refit : (b : Row) (a : Option ℕ) (e : Entry) (s : Standing) → is_refused s ≡ is_refused e.standing → IsFrame b a e → IsFrame b a (with_standing e s)
refit b a e s same h = record { booking = h.booking; channel = h.channel; accepted = same ∙ h.accepted }

pub at_map_in : (link : Link) (d : Day) (es : List Entry) (i : ℕ) → entry_at (map (after_in link d) es) i ≡ after_in link d (entry_at es i)
at_map_in (Down rules) d [] i = refl
at_map_in link d (e ∷ es) (suc i) = at_map_in link d es i
at_map_in link d es i = refl

pub at_map : (d : Day) (es : List Entry) (i : ℕ) → entry_at (map (after_in Up d) es) i ≡ after_in Up d (entry_at es i)
at_map d es i = at_map_in Up d es i

pub at_set : (P : Entry → Type 0) (es : List Entry) (i k : ℕ) (y : Entry) → (P (entry_at es i) → P y) → P (entry_at es k) → P (entry_at (slice_set es i y) k)
at_set P [] i k y f p = p
at_set P (e ∷ es) zero zero y f p = f p
at_set P (e ∷ es) (suc i) (suc k) y f p = at_set P es i k y f p
at_set P (e ∷ es) i k y f p = p

-- where each entry stands in its plan
opening_length : (k : ℕ) (rows : List Row) (assigned : List (Option ℕ)) → length (entries_from k rows assigned) ≡ length rows
opening_length k [] assigned = refl
opening_length k (b ∷ bs) [] = ap suc (opening_length (k + 1) bs [])
opening_length k (b ∷ bs) (a ∷ as') = ap suc (opening_length (k + 1) bs as')

pub row_of_entry : (k : ℕ) (b : Row) (a : Option ℕ) → (entry_of k b a).row ≡ k
row_of_entry k b None = refl
row_of_entry k b (Some c) = refl

pub reference_of_entry : (k : ℕ) (b : Row) (a : Option ℕ) → (entry_of k b a).reference ≡ k
reference_of_entry k b None = refl
reference_of_entry k b (Some c) = refl

opening_row : (k : ℕ) (rows : List Row) (assigned : List (Option ℕ)) (i n : ℕ) → k + i ≡ n → i < length rows → (entry_at (entries_from k rows assigned) i).reference ≡ n
opening_row k [] assigned i n q lt = absurd (omega arith)
opening_row k (b ∷ bs) [] zero n q lt = reference_of_entry k b None ∙ same k n q
  where
    same : (x y : ℕ) → x + 0 ≡ y → x ≡ y
    same x y h = omega arith
opening_row k (b ∷ bs) [] (suc i) n q lt = opening_row (k + 1) bs [] i n (omega arith) (omega arith)
opening_row k (b ∷ bs) (a ∷ as') zero n q lt = reference_of_entry k b a ∙ same k n q
  where
    same : (x y : ℕ) → x + 0 ≡ y → x ≡ y
    same x y h = omega arith
opening_row k (b ∷ bs) (a ∷ as') (suc i) n q lt = opening_row (k + 1) bs as' i n (omega arith) (omega arith)

all_from : (P : Entry → Type 0) (es : List Entry) → ((i : ℕ) → i < length es → P (entry_at es i)) → AllByRecursion P es
all_from P [] h = tt
all_from P (e ∷ es) h = (h 0 (omega arith), all_from P es (λ i lt. h (suc i) (omega arith)))

own_entry : (k : ℕ) (b : Row) (a : Option ℕ) → (entry_of k b a).reference ≡ (entry_of k b a).row
own_entry k b None = refl
own_entry k b (Some c) = refl

opening_own : (k : ℕ) (rows : List Row) (assigned : List (Option ℕ)) → AllByRecursion (λ (e : Entry). e.reference ≡ e.row) (entries_from k rows assigned)
opening_own k [] assigned = tt
opening_own k (b ∷ bs) [] = (own_entry k b None, opening_own (k + 1) bs [])
opening_own k (b ∷ bs) (a ∷ as') = (own_entry k b a, opening_own (k + 1) bs as')

pub opening_placed : (rows : List Row) (assigned : List (Option ℕ)) → AllByRecursion (Placed rows assigned) (entries_from 1 rows assigned)
opening_placed rows assigned = all_from (Placed rows assigned) (entries_from 1 rows assigned) (λ i lt.
    let lt' : i < length rows = subst (λ n. i < n) (opening_length 1 rows assigned) lt in
    let f = opening_framed 1 rows assigned i lt' in
    record { index = i; row = opening_row 1 rows assigned i (suc i) (omega arith) lt'; own = all_at (λ (e : Entry). e.reference ≡ e.row) refl (entries_from 1 rows assigned) i (opening_own 1 rows assigned); booking = f.booking; channel = f.channel; accepted = f.accepted })

replace : (rows : List Row) (assigned : List (Option ℕ)) (e : Entry) (s : Standing) → is_refused s ≡ is_refused e.standing → Placed rows assigned e → Placed rows assigned (with_standing e s)
replace rows assigned e s same p = record { index = p.index; row = p.row; own = p.own; booking = p.booking; channel = p.channel; accepted = same ∙ p.accepted }

second_placed : (rows : List Row) (assigned : List (Option ℕ)) (link : Link) (d : Day) (es : List Entry) → AllByRecursion (Placed rows assigned) es → AllByRecursion (Placed rows assigned) (map (after_in link d) es)
second_placed rows assigned link d [] h = tt
second_placed rows assigned link d (e ∷ es) h = (replace rows assigned e _ (in_same link e (d.moment + 1) (is_back d) (is_free d e.channel) e.standing) h.0, second_placed rows assigned link d es h.1)

pub all_update : (P : Entry → Type 0) (es : List Entry) (i : ℕ) (y : Entry) → (P (entry_at es i) → P y) → AllByRecursion P es → AllByRecursion P (slice_set es i y)
all_update P [] i y f h = tt
all_update P (e ∷ es) zero y f h = (f h.0, h.1)
all_update P (e ∷ es) (suc i) y f h = (h.0, all_update P es i y f h.1)

second_framed : (rows : List Row) (assigned : List (Option ℕ)) (link : Link) (d : Day) → Framed rows assigned d → Framed rows assigned (passed_in link d).day
second_framed rows assigned link d h = (
  (λ i lt. let e = entry_at d.entries i in
      subst (IsFrame (row_at rows i) (slice_index_or assigned i None)) (sym (at_map_in link d d.entries i))
      (refit (row_at rows i) (slice_index_or assigned i None) e _ (in_same link e (d.moment + 1) (is_back d) (is_free d e.channel) e.standing) (h.0 i lt))),
  second_placed rows assigned link d d.entries h.1,
)

tick_framed : (rows : List Row) (assigned : List (Option ℕ)) (d : Day) → Framed rows assigned d → Framed rows assigned (tick d).day
tick_framed rows assigned d h = by_cases (nat_le 300000 d.moment) _ _ (λ (s : Sent Day). Framed rows assigned s.day) (λ _. h) (λ _. second_framed rows assigned Up d h)

without_framed : (rules : Rules) (rows : List Row) (assigned : List (Option ℕ)) (d : Day) → Framed rows assigned d → Framed rows assigned (without_link_by rules d)
without_framed rules rows assigned d h = by_cases (nat_le 300000 d.moment) _ _ (Framed rows assigned) (λ _. h) (λ _. second_framed rows assigned (Down rules) d h)

moved_framed : (rows : List Row) (assigned : List (Option ℕ)) (d : Day) (i : ℕ) (m : Moved) → is_refused m.standing ≡ is_refused (entry_at d.entries i).standing → Framed rows assigned d → Framed rows assigned (with_moved d i m).day
moved_framed rows assigned d i m same h = (
  (λ k lt. at_set (IsFrame (row_at rows k) (slice_index_or assigned k None)) d.entries i k (with_standing (entry_at d.entries i) m.standing) (refit (row_at rows k) (slice_index_or assigned k None) (entry_at d.entries i) m.standing same) (h.0 k lt)),
  all_update (Placed rows assigned) d.entries i (with_standing (entry_at d.entries i) m.standing) (replace rows assigned (entry_at d.entries i) m.standing same) h.1,
)

takes_framed : (rows : List Row) (assigned : List (Option ℕ)) (d : Day) (m : Said) (cause : ℕ) (o : Option ℕ) → OpenAt d o → Framed rows assigned d → Framed rows assigned (takes_or d m cause o).day
takes_framed rows assigned d m cause None op h = h
takes_framed rows assigned d m cause (Some i) op h = moved_framed rows assigned d i (takes_call m (entry_at d.entries i)) (sym (open_parts d (entry_at d.entries i) op).accepted) h

preferred_framed : (rows : List Row) (assigned : List (Option ℕ)) (d : Day) (m : Said) (o : Option ℕ) → OpenAt d o → Framed rows assigned d → Framed rows assigned (takes_preferred d m o).day
preferred_framed rows assigned d m None op h = takes_framed rows assigned d m 34 (lowest_open d every_channel) (open_lowest d every_channel) h
preferred_framed rows assigned d m (Some i) op h = takes_framed rows assigned d m 34 (Some i) op h

on_framed : (rows : List Row) (assigned : List (Option ℕ)) (d : Day) (m : Said) (f : ChannelField) → Framed rows assigned d → Framed rows assigned (called_on d m f).day
on_framed rows assigned d m Unread h = h
on_framed rows assigned d m (Named c true) h = takes_framed rows assigned d m 44 (position (opens d c) d.entries) (open_index d c) h
on_framed rows assigned d m (Named c false) h = preferred_framed rows assigned d m (position (opens d c) d.entries) (open_index d c) h
on_framed rows assigned d m f h = takes_framed rows assigned d m 34 (lowest_open d every_channel) (open_lowest d every_channel) h

called_framed : (rows : List Row) (assigned : List (Option ℕ)) (d : Day) (m : Said) (b : Option ℕ) → Framed rows assigned d → Framed rows assigned (called d m b).day
called_framed rows assigned d m (Some cause) h = h
called_framed rows assigned d m None h = on_framed rows assigned d m m.heard.channel h

stray_framed : (rows : List Row) (assigned : List (Option ℕ)) (d : Day) (m : Said) (k : Kind) → Framed rows assigned d → Framed rows assigned (stray d m k).day
stray_framed rows assigned d m Setup h = by_cases m.flag _ _ (λ (x : Answered Day). Framed rows assigned x.day) (λ _. h) (λ _. called_framed rows assigned d m m.refused h)
stray_framed rows assigned d m k h = h

received_framed : (rows : List Row) (assigned : List (Option ℕ)) (d : Day) (m : Said) (o : Option ℕ) → Framed rows assigned d → Framed rows assigned (received_at d m o).day
received_framed rows assigned d m None h = stray_framed rows assigned d m m.heard.kind h
received_framed rows assigned d m (Some i) h = moved_framed rows assigned d i (hears m d.moment (entry_at d.entries i).standing) (hears_same m d.moment (entry_at d.entries i).standing) h

-- every day of a run
pub record RunFits (rows : List Row) (assigned : List (Option ℕ)) (d : Day) : Type 0 where
  pub day : DayFits d
  pub framed : Framed rows assigned d

-- so that each booking has its row as the reference
pub referred_by_row : (rows : List Row) (assigned : List (Option ℕ)) (d : Day) → RunFits rows assigned d → AreReferredByRow d.entries
referred_by_row rows assigned d fits i lt = (each_at (Placed rows assigned) d.entries i lt fits.framed.1).own

received_run : (rows : List Row) (assigned : List (Option ℕ)) (d : Day) (m : Said) → RunFits rows assigned d → RunFits rows assigned (receive d m).day
received_run rows assigned d m h = record { day = receive_fits d m h.day; framed = received_framed rows assigned d m (position (names m) d.entries) h.framed }

from_run : (u : Rules) (rows : List Row) (assigned : List (Option ℕ)) (d : Day) (m : PlainMessage) (r : Reference) → RunFits rows assigned d → RunFits rows assigned (receive_from u d m r).day
from_run u rows assigned d m Dummy h = h
from_run u rows assigned d m (Value value flag) h = by_cases (value == 0) _ _ (λ (x : Answered Day). RunFits rows assigned x.day) (λ _. h) (λ _. received_run rows assigned d (said_under u value flag m) h)

read_run : (u : Rules) (rows : List Row) (assigned : List (Option ℕ)) (d : Day) (r : Result PlainMessage MessageFault) → RunFits rows assigned d → RunFits rows assigned (receive_read u d r).day
read_run u rows assigned d (Err fault) h = h
read_run u rows assigned d (Ok m) h = from_run u rows assigned d m m.reference h

pub happens_fits : (rows : List Row) (assigned : List (Option ℕ)) (d : Day) (e : Event) → RunFits rows assigned d → RunFits rows assigned (happens d e).day
happens_fits rows assigned d Tick h = record { day = tick_fits d h.day; framed = tick_framed rows assigned d h.framed }
happens_fits rows assigned d (Receive octets) h = read_run Three rows assigned d (message_at octets) h

pub run_fits : (rows : List Row) (assigned : List (Option ℕ)) (events : List Event) (d : Day) → RunFits rows assigned d → RunFits rows assigned (day_after events d)
run_fits rows assigned [] d h = h
run_fits rows assigned (e ∷ es) d h = run_fits rows assigned es (happens d e).day (happens_fits rows assigned d e h)

pub without_run : (rules : Rules) (rows : List Row) (assigned : List (Option ℕ)) (d : Day) → RunFits rows assigned d → RunFits rows assigned (without_link_by rules d)
without_run rules rows assigned d h = record { day = without_fits rules d h.day; framed = without_framed rules rows assigned d h.framed }

pub live_fits : (rows : List Row) (assigned : List (Option ℕ)) (d : Day) (e : LiveEvent) → RunFits rows assigned d → RunFits rows assigned (live_happens d e).day
live_fits rows assigned d (OnLink e) h = happens_fits rows assigned d e h
live_fits rows assigned d (WithoutLink rules) h = without_run rules rows assigned d h
live_fits rows assigned d (Amended kind line) h = h
live_fits rows assigned d (HeardByRulesTwo octets) h = read_run Two rows assigned d (message_at octets) h

pub live_run : (rows : List Row) (assigned : List (Option ℕ)) (events : List LiveEvent) (d : Day) → RunFits rows assigned d → RunFits rows assigned (live_day_after events d)
live_run rows assigned [] d h = h
live_run rows assigned (e ∷ es) d h = live_run rows assigned es (live_happens d e).day (live_fits rows assigned d e h)

pub all_on_link : (events : List Event) (d : Day) → live_day_after (map (λ (e : Event). OnLink e) events) d ≡ day_after events d
all_on_link [] d = refl
all_on_link (e ∷ es) d = all_on_link es (happens d e).day

-- what that says
on_live : (s : Standing) (P : PlainNetCall → Activity → Type 0) → ((c : PlainNetCall) (a : Activity) → s ≡ OnCall c a → P c a) → OnLive s P
on_live (OnCall c a) P f = f c a refl
on_live s P f = tt

on_carried : (s : Standing) (P : ℕ → ℕ → Type 0) → ((from until : ℕ) → s ≡ Carried from until → P from until) → OnCarried s P
on_carried (Carried from until) P f = f from until refl
on_carried s P f = tt

pairs_at : (es : List Entry) (i j : ℕ) → i < j → Pairs Apart es → Apart (entry_at es i) (entry_at es j)
pairs_at [] i j lt ps = apart_none no_entry
pairs_at (e ∷ es) zero zero lt ps = absurd (omega arith)
pairs_at (e ∷ es) zero (suc j) lt ps = all_at (Apart e) (apart_none e) es j ps.0
pairs_at (e ∷ es) (suc i) zero lt ps = absurd (omega arith)
pairs_at (e ∷ es) (suc i) (suc j) lt ps = pairs_at es i j (omega arith) ps.1

not_refused : (a : Option ℕ) → false ≡ not (is_some a) → is_some a ≡ true
not_refused None h = absurd (false≢true h)
not_refused (Some c) h = refl

active_talks : (t : ℕ) (b : Row) (s : NetState) → is_active s ≡ true → PhaseFits t b (phase_of s) → (b.start ≤ t) × (t < b.end)
active_talks t b (DisconnectIndication cause due) at h = absurd (false≢true at)
active_talks t b (ReleaseRequest again cause due) at h = absurd (false≢true at)
active_talks t b s at h = h

active_runs : (t : ℕ) (b : Row) (c : PlainNetCall) → is_active c.state ≡ true → PhaseFits t b (phase_of c.state) → is_running b t ≡ true
active_runs t b c at h =
    let p : (b.start ≤ t) × (t < b.end) = active_talks t b c.state at h in
    and_from (nat_le b.start t) (nat_lt t b.end) (le-leb b.start t p.0) (lt-ltb t b.end p.1)

call_at : (d : Day) (i : ℕ) → DayFits d → (c : PlainNetCall) (a : Activity) → standing_at d i ≡ OnCall c a → CallFits d.moment (entry_at d.entries i) c a
call_at d i h c a p = subst (StandingFits d.moment (entry_at d.entries i)) p (all_at (EntryFits d.moment) tt d.entries i h.each)

-- 38 seconds with a link after the end no call is left
late_none : (t n : ℕ) (lasts : Bool) (b : Row) (s : NetState) → PhaseFits t b (phase_of s) → DueFits t s → (b.end ≤ t → ClearsBy lasts (b.end + n) s) → b.end + 38 + n ≤ t → ⊥
late_none t n lasts b (DisconnectIndication cause due) p q c h = omega (arith, q.0, (c (omega (arith, h))).1, h)
late_none t n lasts b (ReleaseRequest NotYet cause due) p q c h = omega (arith, q.0, c (omega (arith, h)), h)
late_none t n lasts b (ReleaseRequest Once cause due) p q c h = omega (arith, q.0, (c (omega (arith, h))).1, h)
late_none t n lasts b (ReleaseRequest Twice cause due) p q c h = omega (arith, q.0, (c (omega (arith, h))).1, h)
late_none t n lasts b s p q c h = omega (arith, p.1, h)

-- no channel is held twice
pub held_apart : (rows : List Row) (assigned : List (Option ℕ)) (d : Day) → RunFits rows assigned d → (i j : ℕ) → i < j → OnLive (standing_at d i) (λ call a. OnLive (standing_at d j) (λ other b. call.channel ≢ other.channel))
held_apart rows assigned d h i j lt = on_live (standing_at d i) _ (λ c a p. on_live (standing_at d j) _ (λ c' a' p' same.
    (pairs_at d.entries i j lt h.day.pairs).live (ap is_live p) (ap is_live p') (sym (call_at d i h.day c a p).channel ∙ same ∙ (call_at d j h.day c' a' p').channel)))

pub orderly : (rows : List Row) (assigned : List (Option ℕ)) (lost : ℕ → Lost) (d : Day) → RunFits rows assigned d → DayClears lost d → IsOrderly rows assigned lost d
orderly rows assigned lost d h clears = record {
  planned = λ i lt. on_live (standing_at d i) _ (λ c a p. (
    not_refused (slice_index_or assigned i None) (sym (ap is_refused p) ∙ (h.framed.0 i lt).accepted),
    (call_at d i h.day c a p).channel ∙ (h.framed.0 i lt).channel,
  ));
  apart = λ i j lt le. held_apart rows assigned d h i j lt;
  active = λ i lt. on_live (standing_at d i) _ (λ c a p at. subst (λ b. is_running b d.moment ≡ true) (h.framed.0 i lt).booking (active_runs d.moment (entry_at d.entries i).booking c at (call_at d i h.day c a p).phase));
  carried = λ i lt. on_carried (standing_at d i) _ (λ from until p. subst (λ b. (b.start ≤ from) × (from ≤ until) × (until ≤ b.end)) (h.framed.0 i lt).booking (subst (StandingFits d.moment (entry_at d.entries i)) p (all_at (EntryFits d.moment) tt d.entries i h.day.each)));
  cleared = λ i lt late.
      (let b : Row = (entry_at d.entries i).booking in
      let over : b.end + 38 + added (lost b.end) ≤ d.moment = subst (λ (b : Row). b.end + 38 + added (lost b.end) ≤ d.moment) (sym (h.framed.0 i lt).booking) late in (
        (λ p. let early : d.moment < (entry_at d.entries i).booking.end = subst (StandingFits d.moment (entry_at d.entries i)) p (all_at (EntryFits d.moment) tt d.entries i h.day.each) in omega arith),
        on_live (standing_at d i) _ (λ c a p. late_none d.moment (added (lost b.end)) (lost b.end).lasts b c.state (call_at d i h.day c a p).phase (call_at d i h.day c a p).due (subst (StandingClears (lost b.end) d.moment b) p (all_at (EntryClears lost d.moment) tt d.entries i clears)) over),
      ));
}
