-- Clearing takes 38 seconds at most after the end of a booking, and each second without a link, and T308 for each outage: every event keeps that.
use Rattle.bx_calls.specs.declared.net_state.NetState.TheVariants.{IncomingCallProceeding, CallReceived}
use Rattle.bx_events.specs.declared.rules.Rules.TheVariants.{Two, Three}
use Rattle.bx_events.specs.declared.rules.Rules.{Rules}
use Rattle.std.proofs.Common.{◌≡◌, ℕ, ◌+◌, ◌*◌, ◌≤◌, ◌<◌, Bool, true, false, List, [], ◌∷◌, map, Option, Some, None, arith, refl, sym, ap, ◌∙◌, ◌&&◌, subst, inl, inr, nat_le, nat_lt, if◌then◌else◌, Result, Ok, Err, ◌==◌}
use Rattle.std.specs.List.{AllByRecursion, position}
use Rattle.std.proofs.lemmas.Bool.{false≢true, leb-false, leb-true, le-leb, lt-ltb, le-ltb, and_from, and_right, cases_lt, true≢false}
use Rattle.bx_q931.specs.Outgoing.{Outgoing}
use Rattle.bx_events.specs.Events.{Event, Tick, Receive, LiveEvent, OnLink, WithoutLink, Amended, HeardByRulesTwo}
use Rattle.bx_q931.specs.Messages.{PlainMessage, message_at}
use Rattle.bx_q931.specs.declared.fault.MessageFault.{MessageFault}
use Rattle.bx_q931.specs.declared.kind.Kind.{Kind}
use Rattle.bx_q931.specs.declared.kind.Kind.TheVariants.{ConnectAcknowledge, Setup, Disconnect, Release, ReleaseComplete, Status}
use Rattle.bx_q931.specs.declared.channel_field.ChannelField.{ChannelField}
use Rattle.bx_q931.specs.declared.channel_field.ChannelField.TheVariants.{Named, Unread}
use Rattle.bx_q931.specs.declared.reference.Reference.{Reference}
use Rattle.bx_q931.specs.declared.reference.Reference.TheVariants.{Dummy, Value}
use Rattle.bx_base.specs.Bookings.{Row}
use Rattle.bx_calls.specs.declared.transition.Next.{Next}
use Rattle.bx_calls.specs.declared.transition.Next.TheVariants.{Live}
use Rattle.bx_calls.specs.declared.transition.Transition.{Transition}
use Rattle.bx_calls.specs.PlainCalls.{PlainNetCall}
use Rattle.bx_calls.specs.declared.net_state.NetOrigin.{NetOrigin}
use Rattle.bx_calls.specs.declared.net_state.Offer.TheVariants.{Asked}
use Rattle.bx_calls.specs.declared.times.Times.TheVariants.{NotYet, Once, Twice}
use Rattle.bx_calls.specs.declared.net_state.NetState.{NetState}
use Rattle.bx_calls.specs.declared.net_state.NetState.TheVariants.{Active, CallPresent, Enquiring, DisconnectIndication, ReleaseRequest}
use Rattle.bx_calls.specs.Hearing.{Heard, reports_null}
use Rattle.bx_calls.specs.NetTable.{net_awake_state, net_heard, net_put_off, net_releases, net_row, net_says, net_to, net_second, net_unlinked, net_connects, net_rung}
use Rattle.bx_calls.specs.Said.{Said, said_under}
use Rattle.bx_calls.specs.Sending.{Sent, Answered}
use Rattle.bx_day.specs.Day.{Day, entry_at, is_back, is_free, opening, entry_of, entries_from, every_channel}
use Rattle.bx_day.specs.Moves.{follow, follows, over_at}
use Rattle.bx_day.specs.Ticks.{after_in, second_at, waits, unlinked_at}
use Rattle.bx_day.specs.Receipts.{hears, takes_call, takes_or, takes_preferred, called_on, called, stray, received_at, opens, lowest_open, names, with_moved}
use Rattle.bx_day.specs.Run.{receive_from, receive_read, happens}
use Rattle.bx_day.specs.Outages.{without_link_by, live_happens, live_day_after, Lost, none_lost, one_more, lost_by, lost_after, lost_since}
use Rattle.bx_day.specs.Invariant.{CallFits, EntryFits, DayFits, phase_of, PhaseFits}
use Rattle.bx_day.specs.Clearing.{added, ClearsBy, StandingClears, EntryClears, DayClears}
use Rattle.bx_day.specs.declared.entry.Activity.{Activity}
use Rattle.bx_day.specs.declared.entry.Activity.TheVariants.{Was}
use Rattle.bx_day.specs.declared.entry.Entry.{Entry}
use Rattle.bx_day.specs.declared.entry.Moved.{Moved}
use Rattle.bx_day.specs.declared.entry.Link.TheVariants.{Up, Down}
use Rattle.bx_day.specs.declared.entry.Standing.{Standing}
use Rattle.bx_day.specs.declared.entry.Standing.TheVariants.{Unoffered, OnCall}
use Rattle.bx_day.proofs.Hear.{awake_fits, heard_by}
use Rattle.bx_day.proofs.Second.{call_of}
use Rattle.bx_day.proofs.Tick.{by_cases, with_standing, offers, all_weaker}
use Rattle.bx_day.proofs.Receive.{all_at}
use Rattle.bx_day.proofs.Once.{decide}
use Rattle.bx_day.proofs.Law.{RunFits, all_update, live_fits}

-- ---- one more second without a link

grows : (x : Lost) → added x + 1 ≤ added (one_more x)
grows x = by_cases x.lasts _ _ (λ (n : ℕ). added x + 1 ≤ x.seconds + 1 + 8 * n) (λ _. omega arith) (λ _. omega arith)

begins : (x : Lost) → x.lasts ≡ false → added x + 9 ≤ added (one_more x)
begins x first = by_cases x.lasts _ _ (λ (n : ℕ). added x + 9 ≤ x.seconds + 1 + 8 * n) (λ lasts. absurd (true≢false (sym lasts ∙ first))) (λ _. omega arith)

-- a link after it
linked_state : (lasts : Bool) (m : ℕ) (s : NetState) → ClearsBy lasts m s → ClearsBy false m s
linked_state lasts m (DisconnectIndication cause due) h = (λ q. absurd (false≢true q), h.1)
linked_state lasts m (ReleaseRequest NotYet cause due) h = h
linked_state lasts m (ReleaseRequest Once cause due) h = (λ q. absurd (false≢true q), h.1)
linked_state lasts m (ReleaseRequest Twice cause due) h = (refl, h.1)
linked_state lasts m s h = tt

abbrev linked : Lost → Lost
linked x = record x { lasts = false }

linked_standing : (x : Lost) (t : ℕ) (b : Row) (s : Standing) → StandingClears x t b s → StandingClears (linked x) t b s
linked_standing x t b (OnCall c a) h = λ late. linked_state x.lasts (b.end + added x) c.state (h late)
linked_standing x t b s h = tt

-- ---- a step of a call

abbrev StepClears : Lost → ℕ → Entry → Activity → Transition PlainNetCall → Type 0
StepClears x t e a step = StandingClears x t e.booking (follows a t step).standing

over_clears : (x : Lost) (t u : ℕ) (b : Row) (a : Activity) → StandingClears x t b (over_at a u)
over_clears x t u b (Was from until) = tt
over_clears x t u b a = tt

next_early : (x : Lost) (t : ℕ) (e : Entry) (a : Activity) (said : Option Outgoing) (next : Next PlainNetCall) → t < e.booking.end → StandingClears x t e.booking (follow a t said next).standing
next_early x t e a said (Live c) early = λ late. absurd (omega (arith, early, late))
next_early x t e a said next early = over_clears x t t e.booking a

-- while the booking runs
early_clears : (x : Lost) (t : ℕ) (e : Entry) (a : Activity) (step : Transition PlainNetCall) → t < e.booking.end → StepClears x t e a step
early_clears x t e a step early = next_early x t e a step.reply step.next early

clears_test : (b : Bool) (x : Lost) (t : ℕ) (e : Entry) (a : Activity) (p q : Transition PlainNetCall) → (b ≡ true → StepClears x t e a p) → (b ≡ false → StepClears x t e a q) → StepClears x t e a (if b then p else q)
clears_test true x t e a p q f g = f refl
clears_test false x t e a p q f g = g refl

at_end : (x : Lost) (t : ℕ) (e : Entry) (a : Activity) (p q : Transition PlainNetCall) → StepClears x (t + 1) e a p → StepClears x (t + 1) e a (if nat_le e.booking.end (t + 1) then p else q)
at_end x t e a p q f = clears_test (nat_le e.booking.end (t + 1)) x (t + 1) e a p q (λ _. f) (λ runs. early_clears x (t + 1) e a q (leb-false e.booking.end (t + 1) runs))

-- a timer of clearing, by whether the booking was over already
within : (t end n due k room : ℕ) → (end ≤ t → due ≤ end + n + room) → due ≤ t + k → k ≤ room → end ≤ t + 1 → due ≤ end + n + room
within t end n due k room c most le late = elim (cases_lt t end) [
  | inl less ↦ omega (arith, most, le, less)
  | inr over ↦ c over
]

-- the next timer of clearing, of four seconds
next_within : (t end n due k room : ℕ) → (end ≤ t → due ≤ end + n + room) → t < due → k ≤ room → end ≤ t + 1 → t + 1 + 4 ≤ end + n + (room + 4)
next_within t end n due k room c lt le late = elim (cases_lt t end) [
  | inl less ↦ omega (arith, less)
  | inr over ↦ (let p : due ≤ end + n + room = c over in omega (arith, p, lt))
]

second_clears : (x : Lost) (t : ℕ) (e : Entry) (r ch : ℕ) (o : NetOrigin) (s : NetState) (a : Activity) → CallFits t e (call_of r ch o s) a → (e.booking.end ≤ t → ClearsBy x.lasts (e.booking.end + added x) s) → StepClears (linked x) (t + 1) e a (net_second (call_of r ch o s) (t + 1) e.booking.end)
second_clears x t e r ch o (DisconnectIndication cause due) a h c =
    clears_test (nat_le due (t + 1)) (linked x) (t + 1) e a _ _
    (λ _ late. (λ q. absurd (false≢true q), next_within t e.booking.end (added x) due 30 30 (λ over. (c over).1) h.due.0 (omega arith) late))
    (λ _ late. (λ q. absurd (false≢true q), within t e.booking.end (added x) due 30 30 (λ over. (c over).1) h.due.1 (omega arith) late))
second_clears x t e r ch o (ReleaseRequest NotYet cause due) a h c =
    clears_test (nat_le due (t + 1)) (linked x) (t + 1) e a _ _
    (λ _ late. (λ q. absurd (false≢true q), next_within t e.booking.end (added x) due 4 30 c h.due.0 (omega arith) late))
    (λ _ late. within t e.booking.end (added x) due 4 30 c h.due.1 (omega arith) late)
second_clears x t e r ch o (ReleaseRequest Once cause due) a h c =
    clears_test (nat_le due (t + 1)) (linked x) (t + 1) e a _ _
    (λ _ late. (refl, next_within t e.booking.end (added x) due 4 34 (λ over. (c over).1) h.due.0 (omega arith) late))
    (λ _ late. (λ q. absurd (false≢true q), within t e.booking.end (added x) due 4 34 (λ over. (c over).1) h.due.1 (omega arith) late))
second_clears x t e r ch o (ReleaseRequest Twice cause due) a h c =
    clears_test (nat_le due (t + 1)) (linked x) (t + 1) e a _ _ (λ _. over_clears (linked x) (t + 1) (t + 1) e.booking a) (λ _ late. (refl, within t e.booking.end (added x) due 4 38 (λ over. (c over).1) h.due.1 (omega arith) late))
second_clears x t e r ch o s a h c = at_end (linked x) t e a _ _ (λ late. (λ q. absurd (false≢true q), omega (arith, h.phase.1)))

-- what a second without a link adds, of a booking that had ended
record IsAdded (x y : Lost) : Type 0 where
  second : added x + 1 ≤ added y
  outage : x.lasts ≡ false → added x + 9 ≤ added y

-- a second without a link: RELEASE is due in the next. Of those after the end, what is added is one more, and twice T308 in the first of
-- an outage. What was left, by whether the last second had a link, is at most what is left then
still_clears_at : (x y : Lost) (t end due room less room' : ℕ) → (end ≤ t → IsAdded x y) → t < due → 1 ≤ room'
    → (end ≤ t → (x.lasts ≡ true → due ≤ end + added x + less) × (due ≤ end + added x + room)) → less ≤ room' → room ≤ room' + 8 → end ≤ t + 1 → t + 1 + 1 ≤ end + added y + room'
still_clears_at x y t end due room less room' more waits some c low high late = elim (cases_lt t end) [
  | inl early ↦ omega (arith, early, some)
  | inr over ↦ decide x.lasts
      (λ lasts. up (added x) (added y) ((c over).0 lasts) (more over).second)
      (λ first. first_up (added x) (added y) (c over).1 ((more over).outage first))
]
  where
    up : (n n' : ℕ) → due ≤ end + n + less → n + 1 ≤ n' → t + 1 + 1 ≤ end + n' + room'
    up n n' p q = omega (arith, p, q, waits, low)

    first_up : (n n' : ℕ) → due ≤ end + n + room → n + 9 ≤ n' → t + 1 + 1 ≤ end + n' + room'
    first_up n n' p q = omega (arith, p, q, waits, high)

still_clears : (rules : Rules) (x y : Lost) (t : ℕ) (e : Entry) (r ch : ℕ) (o : NetOrigin) (s : NetState) (a : Activity) → (e.booking.end ≤ t → IsAdded x y) → CallFits t e (call_of r ch o s) a → (e.booking.end ≤ t → ClearsBy x.lasts (e.booking.end + added x) s) → StepClears y (t + 1) e a (net_unlinked rules 1 (call_of r ch o s) (t + 1) e.booking.end)
still_clears rules x y t e r ch o (DisconnectIndication cause due) a more h c = λ late.
    let most : t + 1 + 1 ≤ e.booking.end + added y + 26 = still_clears_at x y t e.booking.end due 30 26 26 more h.due.0 (omega arith) (λ over. (less (c over).0, (c over).1)) (omega arith) (omega arith) late in
    (λ _. omega (arith, most), omega (arith, most))
  where
    less : (x.lasts ≡ true → due + 4 ≤ e.booking.end + added x + 30) → x.lasts ≡ true → due ≤ e.booking.end + added x + 26
    less p q = omega (arith, p q)
still_clears rules x y t e r ch o (ReleaseRequest NotYet cause due) a more h c = λ late. still_clears_at x y t e.booking.end due 30 30 30 more h.due.0 (omega arith) (λ over. (λ _. c over, c over)) (omega arith) (omega arith) late
still_clears rules x y t e r ch o (ReleaseRequest Once cause due) a more h c = λ late. still_clears_at x y t e.booking.end due 34 30 30 more h.due.0 (omega arith) (λ over. c over) (omega arith) (omega arith) late
still_clears rules x y t e r ch o (ReleaseRequest Twice cause due) a more h c = λ late. still_clears_at x y t e.booking.end due 38 30 30 more h.due.0 (omega arith) (λ over. (λ lasts. absurd (true≢false (sym lasts ∙ (c over).0)), (c over).1)) (omega arith) (omega arith) late
still_clears Two x y t e r ch o (IncomingCallProceeding due) a more h c = at_end y t e a _ _ (λ late. (λ _. omega (arith, h.phase.1), omega (arith, h.phase.1)))
still_clears Three x y t e r ch o (IncomingCallProceeding due) a more h c = at_end y t e a _ _ (λ late. (λ _. omega (arith, h.phase.1), omega (arith, h.phase.1)))
still_clears Two x y t e r ch o (CallReceived due) a more h c = at_end y t e a _ _ (λ late. (λ _. omega (arith, h.phase.1), omega (arith, h.phase.1)))
still_clears Three x y t e r ch o (CallReceived due) a more h c = at_end y t e a _ _ (λ late. (λ _. omega (arith, h.phase.1), omega (arith, h.phase.1)))
still_clears rules x y t e r ch o s a more h c = at_end y t e a _ _ (λ late. (λ _. omega (arith, h.phase.1), omega (arith, h.phase.1)))

-- a message, row by row
row_clears : (x : Lost) (t : ℕ) (e : Entry) (r ch : ℕ) (o : NetOrigin) (a : Activity) (m : Heard) (s : NetState) (k : Kind) → CallFits t e (call_of r ch o s) a → (e.booking.end ≤ t → ClearsBy x.lasts (e.booking.end + added x) s) → StepClears x t e a (net_row (call_of r ch o s) m t s k)
row_clears x t e r ch o a m (DisconnectIndication cause due) ReleaseComplete h c = over_clears x t t e.booking a
row_clears x t e r ch o a m (DisconnectIndication cause due) Release h c = over_clears x t t e.booking a
row_clears x t e r ch o a m (DisconnectIndication cause due) Status h c = clears_test (reports_null m.state) x t e a _ _ (λ _. over_clears x t t e.booking a) (λ _. c)
row_clears x t e r ch o a m (DisconnectIndication cause due) Disconnect h c = λ late. (λ lasts. omega (arith, h.due.0, (c late).0 lasts), omega (arith, h.due.0, (c late).1))
row_clears x t e r ch o a m (DisconnectIndication cause due) k h c = c
row_clears x t e r ch o a m (ReleaseRequest again cause due) ReleaseComplete h c = over_clears x t t e.booking a
row_clears x t e r ch o a m (ReleaseRequest again cause due) Release h c = over_clears x t t e.booking a
row_clears x t e r ch o a m (ReleaseRequest again cause due) Status h c = clears_test (reports_null m.state) x t e a _ _ (λ _. over_clears x t t e.booking a) (λ _. c)
row_clears x t e r ch o a m (ReleaseRequest again cause due) k h c = c
row_clears x t e r ch o a m s k h c = early_clears x t e a (net_row (call_of r ch o s) m t s k) h.phase.1

-- asked no more
awake_clears : (lasts : Bool) (m end t : ℕ) (s : NetState) → (end ≤ t → ClearsBy lasts m s) → end ≤ t → ClearsBy lasts m (net_awake_state s)
awake_clears lasts m end t (Enquiring asked due) c = λ late. tt
awake_clears lasts m end t s c = c

heard_clears : (x : Lost) (t : ℕ) (e : Entry) (r ch : ℕ) (o : NetOrigin) (a : Activity) (m : Heard) (s : NetState) (k : Kind) → CallFits t e (call_of r ch o s) a → (e.booking.end ≤ t → ClearsBy x.lasts (e.booking.end + added x) s) → StepClears x t e a (net_heard (call_of r ch o s) m t s k)
heard_clears x t e r ch o a m s k h c = heard_by (StepClears x t e a) (call_of r ch o s) m t s k
    (record {
      contradicted = λ asked due is q. early_clears x t e a (net_releases (call_of r ch o s) Once (Some 101) t) (runs_on (Enquiring asked due) is (λ p. p.1));
      unacknowledged = λ asked due is q. early_clears x t e a (net_to (call_of r ch o s) (Some (net_says (call_of r ch o s) ConnectAcknowledge)) Active) (runs_on (Enquiring asked due) is (λ p. p.1));
      connected = λ due is q. early_clears x t e a (net_to (call_of r ch o s) (Some (net_says (call_of r ch o s) ConnectAcknowledge)) Active) (runs_on (CallPresent Asked due) is (λ p. p.1));
      put_off = λ offer due is q. early_clears x t e a (net_to (call_of r ch o s) None (net_put_off t (CallPresent offer due))) (runs_on (CallPresent offer due) is (λ p. p.1));
      unconnected = λ asked due is q. early_clears x t e a (net_connects (call_of r ch o s)) (runs_on (Enquiring asked due) is (λ p. p.1));
      ringing = λ due is q. early_clears x t e a (net_to (call_of r ch o s) None (net_rung t m.state)) (runs_on (CallPresent Asked due) is (λ p. p.1));
    })
    (row_clears x t e r ch o a m (net_awake_state s) k (awake_fits t e r ch o s a h) (awake_clears x.lasts (e.booking.end + added x) e.booking.end t s c))
  where
    runs_on : (y : NetState) → s ≡ y → (PhaseFits t e.booking (phase_of y) → t < e.booking.end) → t < e.booking.end
    runs_on y is f = f (subst (λ (z : NetState). PhaseFits t e.booking (phase_of z)) is h.phase)

-- ---- a booking

waits_clears : (x : Lost) (t : ℕ) (e : Entry) (back free : Bool) → StandingClears x t e.booking (waits e t back free).standing
waits_clears x t e back free =
    let P : Moved → Type 0 = λ m. StandingClears x t e.booking m.standing in
    by_cases (offers e t free) _ _ P (λ _ _. tt) (λ _. by_cases (nat_le e.booking.end t) _ _ P (λ _. tt) (λ _. tt))

tick_clears_at : (x : Lost) (t : ℕ) (e : Entry) (back free : Bool) (s : Standing) → EntryFits t (with_standing e s) → StandingClears x t e.booking s → StandingClears (linked x) (t + 1) e.booking (second_at e (t + 1) back free s).standing
tick_clears_at x t e back free (OnCall c a) h k = second_clears x t (with_standing e (OnCall c a)) c.reference c.channel c.origin c.state a h k
tick_clears_at x t e back free Unoffered h k = waits_clears (linked x) (t + 1) e back free
tick_clears_at x t e back free s h k = tt

unlinked_clears_at : (rules : Rules) (x y : Lost) (t : ℕ) (e : Entry) (s : Standing) → (e.booking.end ≤ t → IsAdded x y) → EntryFits t (with_standing e s) → StandingClears x t e.booking s → StandingClears y (t + 1) e.booking (unlinked_at rules e (t + 1) s).standing
unlinked_clears_at rules x y t e (OnCall c a) more h k = still_clears rules x y t (with_standing e (OnCall c a)) c.reference c.channel c.origin c.state a more h k
unlinked_clears_at rules x y t e Unoffered more h k = waits_clears y (t + 1) e false false
unlinked_clears_at rules x y t e s more h k = tt

hears_clears : (x : Lost) (t : ℕ) (m : Said) (e : Entry) (s : Standing) → EntryFits t (with_standing e s) → StandingClears x t e.booking s → StandingClears x t e.booking (hears m t s).standing
hears_clears x t m e (OnCall c a) h k = heard_clears x t (with_standing e (OnCall c a)) c.reference c.channel c.origin a m.heard c.state m.heard.kind h k
hears_clears x t m e s h k = tt

-- ---- a day

up_clears : (lost : ℕ → Lost) (d : Day) (es : List Entry) → AllByRecursion (EntryFits d.moment) es → AllByRecursion (EntryClears lost d.moment) es → AllByRecursion (EntryClears (λ m. linked (lost m)) (d.moment + 1)) (map (after_in Up d) es)
up_clears lost d [] h k = tt
up_clears lost d (e ∷ es) h k = (tick_clears_at (lost e.booking.end) d.moment e (is_back d) (is_free d e.channel) e.standing h.0 k.0, up_clears lost d es h.1 k.1)

still_linked : (lost : ℕ → Lost) (t : ℕ) (es : List Entry) → AllByRecursion (EntryClears lost t) es → AllByRecursion (EntryClears (λ m. linked (lost m)) t) es
still_linked lost t es h = all_weaker (EntryClears lost t) (EntryClears (λ m. linked (lost m)) t) (λ e p. linked_standing (lost e.booking.end) t e.booking e.standing p) es h

down_clears : (rules : Rules) (lost lost' : ℕ → Lost) (d : Day) → ((m : ℕ) → m ≤ d.moment → IsAdded (lost m) (lost' m)) → (es : List Entry) → AllByRecursion (EntryFits d.moment) es → AllByRecursion (EntryClears lost d.moment) es → AllByRecursion (EntryClears lost' (d.moment + 1)) (map (after_in (Down rules) d) es)
down_clears rules lost lost' d more [] h k = tt
down_clears rules lost lost' d more (e ∷ es) h k = (unlinked_clears_at rules (lost e.booking.end) (lost' e.booking.end) d.moment e e.standing (more e.booking.end) h.0 k.0, down_clears rules lost lost' d more es h.1 k.1)

moved_clears : (lost : ℕ → Lost) (d : Day) (i : ℕ) (m : Moved) → (EntryClears lost d.moment (entry_at d.entries i) → EntryClears lost d.moment (with_standing (entry_at d.entries i) m.standing)) → DayClears lost d → DayClears lost (with_moved d i m).day
moved_clears lost d i m f h = all_update (EntryClears lost d.moment) d.entries i (with_standing (entry_at d.entries i) m.standing) f h

takes_clears : (lost : ℕ → Lost) (d : Day) (m : Said) (cause : ℕ) (o : Option ℕ) → DayClears lost d → DayClears lost (takes_or d m cause o).day
takes_clears lost d m cause None h = h
takes_clears lost d m cause (Some i) h = moved_clears lost d i (takes_call m (entry_at d.entries i)) (λ _ _. tt) h

preferred_clears : (lost : ℕ → Lost) (d : Day) (m : Said) (o : Option ℕ) → DayClears lost d → DayClears lost (takes_preferred d m o).day
preferred_clears lost d m None h = takes_clears lost d m 34 (lowest_open d every_channel) h
preferred_clears lost d m (Some i) h = takes_clears lost d m 34 (Some i) h

on_clears : (lost : ℕ → Lost) (d : Day) (m : Said) (f : ChannelField) → DayClears lost d → DayClears lost (called_on d m f).day
on_clears lost d m Unread h = h
on_clears lost d m (Named c true) h = takes_clears lost d m 44 (position (opens d c) d.entries) h
on_clears lost d m (Named c false) h = preferred_clears lost d m (position (opens d c) d.entries) h
on_clears lost d m f h = takes_clears lost d m 34 (lowest_open d every_channel) h

called_clears : (lost : ℕ → Lost) (d : Day) (m : Said) (b : Option ℕ) → DayClears lost d → DayClears lost (called d m b).day
called_clears lost d m (Some cause) h = h
called_clears lost d m None h = on_clears lost d m m.heard.channel h

stray_clears : (lost : ℕ → Lost) (d : Day) (m : Said) (k : Kind) → DayClears lost d → DayClears lost (stray d m k).day
stray_clears lost d m Setup h = by_cases m.flag _ _ (λ (x : Answered Day). DayClears lost x.day) (λ _. h) (λ _. called_clears lost d m m.refused h)
stray_clears lost d m k h = h

received_clears : (lost : ℕ → Lost) (d : Day) (m : Said) (o : Option ℕ) → DayFits d → DayClears lost d → DayClears lost (received_at d m o).day
received_clears lost d m None fits h = stray_clears lost d m m.heard.kind h
received_clears lost d m (Some i) fits h =
    let e = entry_at d.entries i in
    moved_clears lost d i (hears m d.moment e.standing) (λ k. hears_clears (lost e.booking.end) d.moment m e e.standing (all_at (EntryFits d.moment) tt d.entries i fits.each) k) h

from_clears : (u : Rules) (lost : ℕ → Lost) (d : Day) (m : PlainMessage) (r : Reference) → DayFits d → DayClears lost d → DayClears lost (receive_from u d m r).day
from_clears u lost d m Dummy fits h = h
from_clears u lost d m (Value value flag) fits h = by_cases (value == 0) _ _ (λ (x : Answered Day). DayClears lost x.day) (λ _. h) (λ _. received_clears lost d (said_under u value flag m) (position (names (said_under u value flag m)) d.entries) fits h)

read_clears : (u : Rules) (lost : ℕ → Lost) (d : Day) (r : Result PlainMessage MessageFault) → DayFits d → DayClears lost d → DayClears lost (receive_read u d r).day
read_clears u lost d (Err fault) fits h = h
read_clears u lost d (Ok m) fits h = from_clears u lost d m m.reference fits h

happens_clears : (lost : ℕ → Lost) (d : Day) (e : Event) → DayFits d → DayClears lost d → DayClears (λ m. lost_by m d (OnLink e) (lost m)) (happens d e).day
happens_clears lost d Tick fits h = by_cases (nat_le 300000 d.moment) _ _ (λ (s : Sent Day). DayClears (λ m. linked (lost m)) s.day) (λ _. still_linked lost d.moment d.entries h) (λ _. up_clears lost d d.entries fits.each h)
happens_clears lost d (Receive octets) fits h = read_clears Three lost d (message_at octets) fits h

-- ---- a run

counted : (x : Lost) (b : Bool) → b ≡ true → IsAdded x (if b then one_more x else x)
counted x b is = subst (λ (c : Bool). IsAdded x (if c then one_more x else x)) (sym is) (record { second = grows x; outage = begins x })

-- the last moment: no second goes by
not_counted : (rules : Rules) (lost : ℕ → Lost) (d : Day) → nat_le 300000 d.moment ≡ true → (m : ℕ) → lost_by m d (WithoutLink rules) (lost m) ≡ lost m
not_counted rules lost d over m = ap (λ (b : Bool). if b then one_more (lost m) else lost m) (and_right (nat_le m d.moment) (nat_lt d.moment 300000) (le-ltb d.moment 300000 (leb-true 300000 d.moment over)))

without_clears : (rules : Rules) (lost : ℕ → Lost) (d : Day) → DayFits d → DayClears lost d → DayClears (λ m. lost_by m d (WithoutLink rules) (lost m)) (without_link_by rules d)
without_clears rules lost d fits h =
    let lost' : ℕ → Lost = λ m. lost_by m d (WithoutLink rules) (lost m) in
    by_cases (nat_le 300000 d.moment) _ _ (DayClears lost')
    (λ over. all_weaker (EntryClears lost d.moment) (EntryClears lost' d.moment) (λ e p. subst (λ (x : Lost). StandingClears x d.moment e.booking e.standing) (sym (not_counted rules lost d over e.booking.end)) p) d.entries h)
    (λ early. down_clears rules lost lost' d (λ m le. counted (lost m) (nat_le m d.moment && nat_lt d.moment 300000) (and_from (nat_le m d.moment) (nat_lt d.moment 300000) (le-leb m d.moment le) (lt-ltb d.moment 300000 (leb-false 300000 d.moment early)))) d.entries fits.each h)

event_clears : (lost : ℕ → Lost) (d : Day) (e : LiveEvent) → DayFits d → DayClears lost d → DayClears (λ m. lost_by m d e (lost m)) (live_happens d e).day
event_clears lost d (OnLink e) fits h = happens_clears lost d e fits h
event_clears lost d (WithoutLink rules) fits h = without_clears rules lost d fits h
event_clears lost d (Amended kind line) fits h = h
event_clears lost d (HeardByRulesTwo octets) fits h = read_clears Two lost d (message_at octets) fits h

pub run_clears : (rows : List Row) (assigned : List (Option ℕ)) (lost : ℕ → Lost) (events : List LiveEvent) (d : Day) → RunFits rows assigned d → DayClears lost d → DayClears (λ m. lost_after m events d (lost m)) (live_day_after events d)
run_clears rows assigned lost [] d run h = h
run_clears rows assigned lost (e ∷ es) d run h = run_clears rows assigned (λ m. lost_by m d e (lost m)) es (live_happens d e).day (live_fits rows assigned d e run) (event_clears lost d e run.day h)

opens_clear : (k : ℕ) (b : Row) (a : Option ℕ) → EntryClears (λ m. none_lost) 0 (entry_of k b a)
opens_clear k b None = tt
opens_clear k b (Some c) = tt

all_open : (k : ℕ) (rows : List Row) (assigned : List (Option ℕ)) → AllByRecursion (EntryClears (λ m. none_lost) 0) (entries_from k rows assigned)
all_open k [] assigned = tt
all_open k (b ∷ bs) [] = (opens_clear k b None, all_open (k + 1) bs [])
all_open k (b ∷ bs) (a ∷ as') = (opens_clear k b a, all_open (k + 1) bs as')

pub opening_clears : (rows : List Row) (assigned : List (Option ℕ)) → DayClears (λ m. none_lost) (opening rows assigned)
opening_clears rows assigned = all_open 1 rows assigned

-- none without such seconds
pub none_after : (m : ℕ) (events : List Event) (d : Day) → lost_since m (map (λ (e : Event). OnLink e) events) d ≡ none_lost
none_after m [] d = refl
none_after m (Tick ∷ es) d = none_after m es (happens d Tick).day
none_after m (Receive octets ∷ es) d = none_after m es (happens d (Receive octets)).day
