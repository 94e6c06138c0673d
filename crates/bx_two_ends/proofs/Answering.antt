-- A far end that answers by its messages answers each turn.
use Rattle.bx_events.specs.declared.rules.Rules.TheVariants.{Three}
use Rattle.std.proofs.Common.{◌≡◌, ℕ, ◌==◌, ◌&&◌, ◌||◌, not, Bool, true, false, List, [], ◌∷◌, Option, Some, None, refl, sym, subst, ap, ◌∙◌, inl, inr, ◌⊎◌, if◌then◌else◌}
use Rattle.std.specs.Prelude.{Result, Ok, Err}
use Rattle.std.specs.List.{position}
use Rattle.std.proofs.lemmas.Bool.{false≢true, true≢false, false_from_ne_true, or_parts}
use Rattle.std.proofs.lemmas.List.Quantifiers.{position-Some}
use Rattle.bx_q931.specs.Messages.{PlainMessage, message_at}
use Rattle.bx_q931.specs.declared.fault.MessageFault.{MessageFault}
use Rattle.bx_q931.specs.declared.kind.Kind.{Kind}
use Rattle.bx_q931.specs.declared.kind.Kind.TheVariants.{Alerting, CallProceeding, Setup, Connect, ConnectAcknowledge, Disconnect, Release, ReleaseComplete, StatusEnquiry, Status}
use Rattle.bx_q931.specs.declared.reference.Reference.{Reference}
use Rattle.bx_q931.specs.declared.reference.Reference.TheVariants.{Dummy, Value}
use Rattle.bx_calls.specs.Hearing.{Heard, names_channel, reports_null}
use Rattle.bx_calls.specs.NetTable.{net_is_put_off, net_row, net_awake_state, net_flag, net_is_clearing, awaits_word, net_rung, is_alerted, net_is_ringing, net_to}
use Rattle.bx_calls.specs.PlainCalls.{PlainNetCall}
use Rattle.bx_calls.specs.Said.{Said, said_of}
use Rattle.bx_calls.specs.Shared.{bool_eq}
use Rattle.bx_calls.specs.Sending.{Answered, unchanged}
use Rattle.bx_calls.specs.declared.net_state.NetOrigin.{NetOrigin}
use Rattle.bx_calls.specs.declared.net_state.NetOrigin.TheVariants.{Outward, Inward}
use Rattle.bx_calls.specs.declared.net_state.Offer.TheVariants as offers
use Rattle.bx_calls.specs.declared.net_state.NetState.{NetState}
use Rattle.bx_calls.specs.declared.net_state.NetState.TheVariants.{OutgoingCallProceeding, CallPresent, IncomingCallProceeding, CallReceived, Active, Enquiring, DisconnectIndication, ReleaseRequest}
use Rattle.bx_calls.specs.declared.transition.Transition.{Transition}
use Rattle.bx_base.specs.Bookings.{Row}
use Rattle.bx_two_ends.specs.Answering.{said_by, said_read, said_in_octets, tells, is_told, is_connect, is_release, clears_by, is_ringing_in, is_ringing, is_clearing, is_enquired, contradicts, Spares, SparesAll, Answers, Clears as ClearsTurn}
use Rattle.bx_two_ends.specs.Asking.{is_asked}
use Rattle.bx_day.specs.Day.{Day, entry_at, is_live, no_entry}
use Rattle.bx_two_ends.specs.Earning.{heard_in, is_settled, is_settled_in, is_going, IsAllAnswered}
use Rattle.bx_day.specs.Law.{OnLive, standing_at}
use Rattle.bx_day.specs.Moves.{follows}
use Rattle.bx_day.specs.Reading.{IsExchange}
use Rattle.bx_day.specs.Receipts.{names, names_call, hears, takes_call, stray, received_at, receive, with_moved, is_open}
use Rattle.bx_day.specs.Run.{receive_from, receive_read, receive_octets}
use Rattle.bx_day.specs.declared.entry.Activity.{Activity}
use Rattle.bx_day.specs.declared.entry.Entry.{Entry}
use Rattle.bx_day.specs.declared.entry.Standing.{Standing}
use Rattle.bx_day.specs.declared.entry.Standing.TheVariants.{Refused, OnCall}
use Rattle.bx_day.specs.Moves.{over_at}
use Rattle.bx_day.specs.declared.entry.Activity.TheVariants.{Never}
use Rattle.bx_day.specs.Day.{is_unoffered}
use Rattle.bx_day.specs.Invariant.{StandingFits}
use Rattle.std.proofs.lemmas.List.{get_or-set_same}
use Rattle.bx_day.proofs.Hear.{heard_by}
use Rattle.bx_day.proofs.Law.{referred_by_row}
use Rattle.bx_day.proofs.Once.{decide}
use Rattle.bx_day.proofs.Receive.{open_parts, takes_fits}
use Rattle.bx_two_ends.proofs.Naming.{IsNamedOnce, names_live, live_inside, named_found, set_at, once_heard, once_taken}
use Rattle.bx_day.proofs.Received.{heard_exchange, moved_exchange}
use Rattle.bx_day.proofs.Second.{call_of}
use Rattle.bx_day.proofs.Tick.{by_cases, with_standing}
use Rattle.bx_two_ends.proofs.Turning.{IsTurn, octets_turn, octets_day, stray_day, called_day, fits_at, is_open_unoffered}

-- ---- a message to a call that goes on, or that is being cleared, of the table

-- the same call
abbrev IsSameCall : ℕ → NetOrigin → Standing → Type 0
IsSameCall r o (OnCall c a) = (c.reference ≡ r) × (c.origin ≡ o)
IsSameCall r o _ = ⊥

abbrev pub is_third : NetState → Bool
is_third OutgoingCallProceeding = true
is_third _ = false

abbrev pub is_third_call : Standing → Bool
is_third_call (OnCall c a) = is_third c.state
is_third_call _ = false

-- N3, or asked for
abbrev pub is_unsettled : NetState → Bool
is_unsettled OutgoingCallProceeding = true
is_unsettled (Enquiring asked due) = true
is_unsettled _ = false

abbrev pub is_unsettled_call : Standing → Bool
is_unsettled_call (OnCall c a) = is_unsettled c.state
is_unsettled_call _ = false

-- it goes on as the same call, and CONNECT settles it
pub record GoesOn (r : ℕ) (o : NetOrigin) (s : NetState) (k : Kind) (after : Standing) : Type 0 where
  pub same : IsSameCall r o after
  pub going : is_going after ≡ true
  third : is_unsettled_call after ≡ false
  up : (is_ringing_in s ≡ false) ⊎ (is_connect k ≡ true) → is_ringing after ≡ false

going_step : (b : Bool) (r : ℕ) (o : NetOrigin) (s : NetState) (k : Kind) (a : Activity) (t : ℕ) (x y : Transition PlainNetCall) → b ≡ true → GoesOn r o s k (follows a t x).standing → GoesOn r o s k (follows a t (if b then x else y)).standing
going_step b r o s k a t x y is h = subst (λ z. GoesOn r o s k (follows a t (if z then x else y)).standing) (sym is) h

keep_row : (r ch : ℕ) (o : NetOrigin) (s s' : NetState) (k : Kind) (a : Activity) → not (net_is_clearing s') ≡ true → is_unsettled s' ≡ false → ((is_ringing_in s ≡ false) ⊎ (is_connect k ≡ true) → is_ringing_in s' ≡ false) → GoesOn r o s k (OnCall (call_of r ch o s') a)
keep_row r ch o s s' k a h n f = record { same = (refl, refl); going = h; third = n; up = f }

rings_on : (k : Kind) → is_connect k ≡ false → (true ≡ false) ⊎ (is_connect k ≡ true) → true ≡ false
rings_on k h (inl e) = e
rings_on k h (inr e) = absurd (true≢false (sym e ∙ h))

not_named : (b : Bool) → not b ≡ false → b ≡ true
not_named true h = refl
not_named false h = absurd (true≢false h)

going_if : (b : Bool) (r : ℕ) (o : NetOrigin) (s : NetState) (k : Kind) (a : Activity) (t : ℕ) (x y : Transition PlainNetCall) → not b ≡ false → GoesOn r o s k (follows a t x).standing → GoesOn r o s k (follows a t (if b then x else y)).standing
going_if b r o s k a t x y is h = going_step b r o s k a t x y (not_named b is) h

going_else : (b : Bool) (r : ℕ) (o : NetOrigin) (s : NetState) (k : Kind) (a : Activity) (t : ℕ) (x y : Transition PlainNetCall) → b ≡ false → GoesOn r o s k (follows a t y).standing → GoesOn r o s k (follows a t (if b then x else y)).standing
going_else b r o s k a t x y is h = subst (λ z. GoesOn r o s k (follows a t (if z then x else y)).standing) (sym is) h

pub going_row : (r ch : ℕ) (o : NetOrigin) (s : NetState) (a : Activity) (m : Heard) (t : ℕ) (k : Kind) → net_is_clearing s ≡ false → is_unsettled s ≡ false → clears_by ch m k ≡ false → GoesOn r o s k (follows a t (net_row (call_of r ch o s) m t s k)).standing
going_row r ch o (DisconnectIndication cause due) a m t k h n c = absurd (true≢false h)
going_row r ch o (ReleaseRequest again cause due) a m t k h n c = absurd (true≢false h)
going_row r ch o OutgoingCallProceeding a m t k h n c = absurd (true≢false n)
going_row r ch o (Enquiring asked due) a m t k h n c = absurd (true≢false n)
going_row r ch o s a m t ReleaseComplete h n c = absurd (true≢false c)
going_row r ch o s a m t Release h n c = absurd (true≢false c)
going_row r ch o s a m t Disconnect h n c = absurd (true≢false c)
going_row r ch o (CallPresent again due) a m t StatusEnquiry h n c = keep_row r ch o _ _ _ _ refl refl (rings_on StatusEnquiry refl)
going_row r ch o (IncomingCallProceeding due) a m t StatusEnquiry h n c = keep_row r ch o _ _ _ _ refl refl (rings_on StatusEnquiry refl)
going_row r ch o (CallReceived due) a m t StatusEnquiry h n c = keep_row r ch o _ _ _ _ refl refl (rings_on StatusEnquiry refl)
going_row r ch o (CallPresent again due) a m t Status h n c = going_else (reports_null m.state) r o _ _ a t _ _ c (keep_row r ch o _ _ _ _ refl refl (rings_on Status refl))
going_row r ch o (IncomingCallProceeding due) a m t Status h n c = going_else (reports_null m.state) r o _ _ a t _ _ c (keep_row r ch o _ _ _ _ refl refl (rings_on Status refl))
going_row r ch o (CallReceived due) a m t Status h n c = going_else (reports_null m.state) r o _ _ a t _ _ c (keep_row r ch o _ _ _ _ refl refl (rings_on Status refl))
going_row r ch o Active a m t Status h n c = going_else (reports_null m.state) r o _ _ a t _ _ c (keep_row r ch o _ _ _ _ refl refl (λ _. refl))
going_row r ch o (CallPresent again due) a m t CallProceeding h n c = going_if (names_channel m.channel ch) r o _ _ a t _ _ c (keep_row r ch o _ _ _ _ refl refl (rings_on CallProceeding refl))
going_row r ch o (CallPresent again due) a m t Alerting h n c = going_if (names_channel m.channel ch) r o _ _ a t _ _ c (keep_row r ch o _ _ _ _ refl refl (rings_on Alerting refl))
going_row r ch o (CallPresent again due) a m t Connect h n c = going_if (names_channel m.channel ch) r o _ _ a t _ _ c (keep_row r ch o _ _ _ _ refl refl (λ _. refl))
going_row r ch o (IncomingCallProceeding due) a m t Alerting h n c = keep_row r ch o _ _ _ _ refl refl (rings_on Alerting refl)
going_row r ch o (IncomingCallProceeding due) a m t Connect h n c = keep_row r ch o _ _ _ _ refl refl (λ _. refl)
going_row r ch o (CallReceived due) a m t Connect h n c = keep_row r ch o _ _ _ _ refl refl (λ _. refl)
going_row r ch (Outward called) Active a m t ConnectAcknowledge h n c = keep_row r ch (Outward called) _ _ _ _ refl refl (λ _. refl)
going_row r ch Inward Active a m t ConnectAcknowledge h n c = keep_row r ch Inward _ _ _ _ refl refl (λ _. refl)
going_row r ch o Active a m t k h n c = keep_row r ch o _ _ _ _ refl refl (λ _. refl)
going_row r ch o (CallPresent again due) a m t k h n c = keep_row r ch o _ _ _ _ refl refl (rings_on k refl)
going_row r ch o (IncomingCallProceeding due) a m t k h n c = keep_row r ch o _ _ _ _ refl refl (rings_on k refl)
going_row r ch o (CallReceived due) a m t k h n c = keep_row r ch o _ _ _ _ refl refl (rings_on k refl)

-- a call that is being cleared stays so, and RELEASE or RELEASE COMPLETE ends it
record GetsCleared (r : ℕ) (o : NetOrigin) (k : Kind) (after : Standing) : Type 0 where
  same : is_live after ≡ true → IsSameCall r o after
  clearing : is_live after ≡ true → is_clearing after ≡ true
  over : is_release k ≡ true → is_live after ≡ false

pub over_idle : (a : Activity) (t : ℕ) → is_live (over_at a t) ≡ false
over_idle Never t = refl
over_idle a t = refl

ends_row : (r : ℕ) (o : NetOrigin) (k : Kind) (a : Activity) (t : ℕ) → GetsCleared r o k (over_at a t)
ends_row r o k a t = record {
  same = λ live. absurd (true≢false (sym live ∙ over_idle a t));
  clearing = λ live. absurd (true≢false (sym live ∙ over_idle a t));
  over = λ _. over_idle a t;
}

stays_row : (r ch : ℕ) (o : NetOrigin) (s : NetState) (k : Kind) (a : Activity) → net_is_clearing s ≡ true → is_release k ≡ false → GetsCleared r o k (OnCall (call_of r ch o s) a)
stays_row r ch o s k a h n = record { same = λ _. (refl, refl); clearing = λ _. h; over = λ e. absurd (true≢false (sym e ∙ n)) }

cleared_if : (b : Bool) (r : ℕ) (o : NetOrigin) (k : Kind) (a : Activity) (t : ℕ) (x y : Transition PlainNetCall) → GetsCleared r o k (follows a t x).standing → GetsCleared r o k (follows a t y).standing → GetsCleared r o k (follows a t (if b then x else y)).standing
cleared_if true r o k a t x y f g = f
cleared_if false r o k a t x y f g = g

cleared_row : (r ch : ℕ) (o : NetOrigin) (s : NetState) (a : Activity) (m : Heard) (t : ℕ) (k : Kind) → net_is_clearing s ≡ true → GetsCleared r o k (follows a t (net_row (call_of r ch o s) m t s k)).standing
cleared_row r ch o OutgoingCallProceeding a m t k h = absurd (false≢true h)
cleared_row r ch o (CallPresent again due) a m t k h = absurd (false≢true h)
cleared_row r ch o (IncomingCallProceeding due) a m t k h = absurd (false≢true h)
cleared_row r ch o (CallReceived due) a m t k h = absurd (false≢true h)
cleared_row r ch o Active a m t k h = absurd (false≢true h)
cleared_row r ch o (Enquiring asked due) a m t k h = absurd (false≢true h)
cleared_row r ch o (DisconnectIndication cause due) a m t ReleaseComplete h = ends_row r o _ a t
cleared_row r ch o (DisconnectIndication cause due) a m t Release h = ends_row r o _ a t
cleared_row r ch o (DisconnectIndication cause due) a m t Status h = cleared_if (reports_null m.state) r o _ a t _ _ (ends_row r o _ a t) (stays_row r ch o _ _ _ refl refl)
cleared_row r ch o (ReleaseRequest again cause due) a m t ReleaseComplete h = ends_row r o _ a t
cleared_row r ch o (ReleaseRequest again cause due) a m t Release h = ends_row r o _ a t
cleared_row r ch o (ReleaseRequest again cause due) a m t Status h = cleared_if (reports_null m.state) r o _ a t _ _ (ends_row r o _ a t) (stays_row r ch o _ _ _ refl refl)
cleared_row r ch o s a m t k h = stays_row r ch o _ _ _ refl refl

-- ---- a call that is settled stays so

abbrev pub is_up : Standing → Bool
is_up (OnCall c a) = is_settled c
is_up _ = false

up_else : (b : Bool) (a : Activity) (t : ℕ) (x y : Transition PlainNetCall) → b ≡ false → is_up (follows a t y).standing ≡ true → is_up (follows a t (if b then x else y)).standing ≡ true
up_else b a t x y is h = subst (λ z. is_up (follows a t (if z then x else y)).standing ≡ true) (sym is) h

up_row : (r ch : ℕ) (o : NetOrigin) (s : NetState) (a : Activity) (m : Heard) (t : ℕ) (k : Kind) → is_settled_in s o ≡ true → clears_by ch m k ≡ false → is_up (follows a t (net_row (call_of r ch o s) m t s k)).standing ≡ true
up_row r ch o (CallPresent again due) a m t k h c = absurd (false≢true h)
up_row r ch o (IncomingCallProceeding due) a m t k h c = absurd (false≢true h)
up_row r ch o (CallReceived due) a m t k h c = absurd (false≢true h)
up_row r ch o (DisconnectIndication cause due) a m t k h c = absurd (false≢true h)
up_row r ch o (ReleaseRequest again cause due) a m t k h c = absurd (false≢true h)
up_row r ch o (Enquiring asked due) a m t k h c = absurd (false≢true h)
up_row r ch o s a m t ReleaseComplete h c = absurd (true≢false c)
up_row r ch o s a m t Release h c = absurd (true≢false c)
up_row r ch o s a m t Disconnect h c = absurd (true≢false c)
up_row r ch o Active a m t StatusEnquiry h c = refl
up_row r ch o Active a m t Status h c = up_else (reports_null m.state) a t _ _ c refl
up_row r ch (Outward called) Active a m t ConnectAcknowledge h c = refl
up_row r ch Inward Active a m t ConnectAcknowledge h c = refl
up_row r ch o Active a m t k h c = refl
up_row r ch (Outward called) OutgoingCallProceeding a m t k h c = absurd (false≢true h)
up_row r ch Inward OutgoingCallProceeding a m t StatusEnquiry h c = refl
up_row r ch Inward OutgoingCallProceeding a m t Status h c = up_else (reports_null m.state) a t _ _ c refl
up_row r ch Inward OutgoingCallProceeding a m t k h c = refl

-- ---- a message wakes a call that is asked for

awake_settled : (s : NetState) (o : NetOrigin) → is_settled_in s o ≡ true → is_settled_in (net_awake_state s) o ≡ true
awake_settled (Enquiring asked due) o h = absurd (false≢true h)
awake_settled s o h = h

awake_ringing : (s : NetState) → is_ringing_in s ≡ true → is_ringing_in (net_awake_state s) ≡ true
awake_ringing (Enquiring asked due) h = absurd (false≢true h)
awake_ringing s h = h

awake_clearing : (s : NetState) → net_is_clearing s ≡ true → net_is_clearing (net_awake_state s) ≡ true
awake_clearing (Enquiring asked due) h = absurd (false≢true h)
awake_clearing s h = h

pub awake_going : (s : NetState) → net_is_clearing s ≡ false → net_is_clearing (net_awake_state s) ≡ false
awake_going (Enquiring asked due) h = refl
awake_going s h = h

asked_row : (r ch : ℕ) (o : NetOrigin) (s : NetState) (a : Activity) (m : Heard) (t : ℕ) (k : Kind) → is_asked s ≡ true → clears_by ch m k ≡ false → is_up (follows a t (net_row (call_of r ch o (net_awake_state s)) m t (net_awake_state s) k)).standing ≡ true
asked_row r ch o (Enquiring asked due) a m t k h c = up_row r ch o Active a m t k refl c
asked_row r ch o s a m t k h c = absurd (false≢true h)

-- ---- octets as what is said

abbrev receive_said : Day → Option Said → Answered Day
receive_said d None = unchanged d None
receive_said d (Some m) = receive d m

said_day : (d : Day) (octets : List ℕ) → receive_octets d octets ≡ receive_said d (said_in_octets octets)
said_day d octets = read (message_at octets)
  where
    from : (m : PlainMessage) (r : Reference) → receive_from Three d m r ≡ receive_said d (said_by m r)
    from m Dummy = refl
    from m (Value value flag) = by_value (value == 0)
      where
        by_value : (b : Bool) → (if b then unchanged d None else receive d (said_of value flag m)) ≡ receive_said d (if b then None else Some (said_of value flag m))
        by_value true = refl
        by_value false = refl

    read : (r : Result PlainMessage MessageFault) → receive_read Three d r ≡ receive_said d (said_read r)
    read (Err fault) = refl
    read (Ok m) = from m m.reference

-- a day of a turn
pub record IsHearing (rows : List Row) (assigned : List (Option ℕ)) (t : ℕ) (d : Day) : Type 0 where
  pub turn : IsTurn rows assigned t d
  pub exchange : IsExchange d
  pub once : IsNamedOnce d

-- where the far end begins a call, none has its reference
begun_day : (Q : Day → Type 0) (d : Day) (m : Said) (k : Kind) → Q d → (m.flag ≡ false → (i : ℕ) → is_open d (entry_at d.entries i) ≡ true → Q (with_moved d i (takes_call m (entry_at d.entries i))).day) → Q (stray d m k).day
begun_day Q d m Setup q g = by_cases m.flag _ _ (λ (x : Answered Day). Q x.day) (λ _. q) (λ bare. called_day Q d m m.refused q (g bare))
begun_day Q d m k q g = q

once_octets : (d : Day) (octets : List ℕ) → IsNamedOnce d → IsNamedOnce (receive_octets d octets).day
once_octets d octets once = subst (λ (x : Answered Day). IsNamedOnce x.day) (sym (said_day d octets)) (said (said_in_octets octets))
  where
    at : (m : Said) (o : Option ℕ) → position (names m) d.entries ≡ o → IsNamedOnce (received_at d m o).day
    at m None none = begun_day IsNamedOnce d m m.heard.kind once (λ bare i op. once_taken d m i bare none once)
    at m (Some i) found = once_heard d m i once

    said : (o : Option Said) → IsNamedOnce (receive_said d o).day
    said None = once
    said (Some m) = at m (position (names m) d.entries) refl

pub hears_next : (rows : List Row) (assigned : List (Option ℕ)) (t : ℕ) (d : Day) (octets : List ℕ) → IsHearing rows assigned t d → IsHearing rows assigned t (receive_octets d octets).day
hears_next rows assigned t d octets h = record {
  turn = octets_turn rows assigned t d octets h.turn;
  exchange = octets_day IsExchange d octets h.exchange (λ s i. heard_exchange d s i h.exchange)
      (λ s i op. moved_exchange d i (takes_call s (entry_at d.entries i)) (takes_fits d s 44 (Some i) op h.exchange.day) (λ _. (open_parts d (entry_at d.entries i) op).accepted) h.exchange);
  once = once_octets d octets h.once;
}

pub heard_here : (rows : List Row) (assigned : List (Option ℕ)) (t : ℕ) (d : Day) (octets : List ℕ) (i : ℕ) (m : Said) → IsHearing rows assigned t d → said_in_octets octets ≡ Some m → names m (entry_at d.entries i) ≡ true → entry_at (receive_octets d octets).day.entries i ≡ with_standing (entry_at d.entries i) (hears m t (standing_at d i)).standing
heard_here rows assigned t d octets i m h is named =
    let y : Entry = with_standing (entry_at d.entries i) (hears m d.moment (standing_at d i)).standing in
    let lt = live_inside d.entries i (names_live m (standing_at d i) named) in
    ap (λ (x : Answered Day). entry_at x.day.entries i) (said_day d octets ∙ ap (receive_said d) is ∙ ap (received_at d m) (named_found d i m h.exchange (referred_by_row rows assigned d h.turn.fits) h.once named))
    ∙ get_or-set_same d.entries i y no_entry lt
    ∙ ap (λ n. with_standing (entry_at d.entries i) (hears m n (standing_at d i)).standing) h.turn.moment

-- a message that does not name a booking's call leaves it, or begins one for it
pub heard_other : (P : Entry → Type 0) (d : Day) (octets : List ℕ) (i : ℕ) (m : Said) → said_in_octets octets ≡ Some m → names m (entry_at d.entries i) ≡ false → P (entry_at d.entries i) → (is_open d (entry_at d.entries i) ≡ true → P (with_standing (entry_at d.entries i) (takes_call m (entry_at d.entries i)).standing)) → P (entry_at (receive_octets d octets).day.entries i)
heard_other P d octets i m is unnamed p taken =
    subst (λ (x : Answered Day). P (entry_at x.day.entries i)) (sym (said_day d octets ∙ ap (receive_said d) is)) (at (position (names m) d.entries) refl)
  where
    at : (o : Option ℕ) → position (names m) d.entries ≡ o → P (entry_at (received_at d m o).day.entries i)
    at None found = stray_day (λ x. P (entry_at x.entries i)) d m m.heard.kind p
        (λ k op. set_at P d.entries k i _ (λ same lt. subst (λ n. P (with_standing (entry_at d.entries n) (takes_call m (entry_at d.entries n)).standing)) (sym same) (taken (subst (λ n. is_open d (entry_at d.entries n) ≡ true) same op))) p)
    at (Some j) found = set_at P d.entries j i _ (λ same lt. absurd (true≢false (sym (position-Some (names m) d.entries j no_entry found).1 ∙ ap (λ n. names m (entry_at d.entries n)) same ∙ unnamed))) p

pub heard_none : (P : Entry → Type 0) (d : Day) (octets : List ℕ) (i : ℕ) → said_in_octets octets ≡ None → P (entry_at d.entries i) → P (entry_at (receive_octets d octets).day.entries i)
heard_none P d octets i is p = subst (λ (x : Answered Day). P (entry_at x.day.entries i)) (sym (said_day d octets ∙ ap (receive_said d) is)) p

-- ---- what is left to be told

pub told_rest : (test : Heard → Bool) (e0 : Entry) (octets : List ℕ) (rest : List (List ℕ)) (o : Option Said) → said_in_octets octets ≡ o → tells test e0 o ≡ false → is_told test e0 (octets ∷ rest) ≡ true → is_told test e0 rest ≡ true
told_rest test e0 octets rest o is none h = sym (ap (λ b. b || is_told test e0 rest) (ap (tells test e0) is ∙ none)) ∙ h

and_rest : (x y z : Bool) → x ≡ true → (x && y) ≡ z → y ≡ z
and_rest x y z p h = sym (ap (λ b. b && y) p) ∙ h

pub and_none : (x y : Bool) → x ≡ false → (x && y) ≡ false
and_none x y p = ap (λ b. b && y) p

pub none_and : (x y : Bool) → y ≡ false → (x && y) ≡ false
none_and true y q = q
none_and false y q = refl

both : (x x' y y' : Bool) → x ≡ x' → y ≡ y' → (x && y) ≡ (x' && y')
both x x' y y' p q = ap (λ b. b && y) p ∙ ap (λ b. x' && b) q

names_same : (m : Said) (r : ℕ) (o : NetOrigin) (s : Standing) → IsSameCall r o s → names_call m s ≡ ((r == m.reference) && bool_eq (net_flag o) (not m.flag))
names_same m r o (OnCall c a) h = both (c.reference == m.reference) (r == m.reference) (bool_eq (net_flag c.origin) (not m.flag)) (bool_eq (net_flag o) (not m.flag)) (ap (λ x. x == m.reference) h.0) (ap (λ x. bool_eq (net_flag x) (not m.flag)) h.1)
names_same m r o s h = absurd h

-- ---- a call that goes on, message by message

-- it is settled, or waits for a CONNECT or for any message that is to come
pub data GoesOnTo (e0 : Entry) (rest : List (List ℕ)) (e : Entry) : Type 0 where
  Settled : is_up e.standing ≡ true → GoesOnTo e0 rest e
  Rings : is_ringing e.standing ≡ true → ((m : Said) → names m e ≡ names m e0) → is_told (λ m. is_connect m.kind) e0 rest ≡ true → GoesOnTo e0 rest e
  Asked : is_enquired e.standing ≡ true → ((m : Said) → names m e ≡ names m e0) → is_told (λ m. true) e0 rest ≡ true → GoesOnTo e0 rest e

settled_of : (s : Standing) → is_going s ≡ true → is_ringing s ≡ false → is_unsettled_call s ≡ false → is_up s ≡ true
settled_of (OnCall c a) g r n = at c.state c.origin g r n
  where
    at : (x : NetState) (o : NetOrigin) → not (net_is_clearing x) ≡ true → is_ringing_in x ≡ false → is_unsettled x ≡ false → is_settled_in x o ≡ true
    at Active o p q z = refl
    at (Enquiring asked due) o p q z = absurd (true≢false z)
    at OutgoingCallProceeding o p q z = absurd (true≢false z)
    at (CallPresent again due) o p q z = absurd (true≢false q)
    at (IncomingCallProceeding due) o p q z = absurd (true≢false q)
    at (CallReceived due) o p q z = absurd (true≢false q)
    at (DisconnectIndication cause due) o p q z = absurd (false≢true p)
    at (ReleaseRequest again cause due) o p q z = absurd (false≢true p)
settled_of s g r n = absurd (false≢true g)

pub up_going : (s : Standing) → is_up s ≡ true → is_going s ≡ true
up_going (OnCall c a) h = at c.state c.origin h
  where
    at : (x : NetState) (o : NetOrigin) → is_settled_in x o ≡ true → not (net_is_clearing x) ≡ true
    at Active o p = refl
    at (Enquiring asked due) o p = absurd (false≢true p)
    at OutgoingCallProceeding o p = refl
    at (CallPresent again due) o p = refl
    at (IncomingCallProceeding due) o p = refl
    at (CallReceived due) o p = refl
    at (DisconnectIndication cause due) o p = absurd (false≢true p)
    at (ReleaseRequest again cause due) o p = absurd (false≢true p)
up_going s h = absurd (false≢true h)

pub ringing_going : (s : Standing) → is_ringing s ≡ true → (is_going s ≡ true) × (is_unsettled_call s ≡ false)
ringing_going (OnCall c a) h = at c.state h
  where
    at : (x : NetState) → is_ringing_in x ≡ true → (not (net_is_clearing x) ≡ true) × (is_unsettled x ≡ false)
    at (CallPresent again due) p = (refl, refl)
    at (IncomingCallProceeding due) p = (refl, refl)
    at (CallReceived due) p = (refl, refl)
    at Active p = absurd (false≢true p)
    at (Enquiring asked due) p = absurd (false≢true p)
    at OutgoingCallProceeding p = absurd (false≢true p)
    at (DisconnectIndication cause due) p = absurd (false≢true p)
    at (ReleaseRequest again cause due) p = absurd (false≢true p)
ringing_going s h = absurd (false≢true h)

pub going_live : (s : Standing) → is_going s ≡ true → is_live s ≡ true
going_live (OnCall c a) h = refl
going_live s h = absurd (false≢true h)

pub not_going : (b : Bool) → not b ≡ true → b ≡ false
not_going true x = absurd (false≢true x)
not_going false x = refl

and_last : (x y : Bool) → (x && y) ≡ true → y ≡ true
and_last true y q = q
and_last false y q = absurd (false≢true q)

-- what puts an offer off clears a call that goes on
pub put_off_clears : (ch : ℕ) (s : NetState) (m : Heard) (k : Kind) → net_is_put_off s m k ≡ true → clears_by ch m k ≡ true
put_off_clears ch (CallPresent offer due) m ReleaseComplete q = refl
put_off_clears ch (CallPresent offer due) m Status q = and_last (awaits_word m.rules offer) (reports_null m.state) q
put_off_clears ch (CallPresent offer due) m k q = absurd (false≢true q)
put_off_clears ch s m k q = absurd (false≢true q)

-- one that is settled
up_hears : (t : ℕ) (e : Entry) (m : Said) (s : Standing) → StandingFits t e s → clears_by e.channel m.heard m.heard.kind ≡ false → is_up s ≡ true → is_up (hears m t s).standing ≡ true
up_hears t e m (OnCall c a) fits spared h = heard_by (λ (x : Transition PlainNetCall). is_up (follows a t x).standing ≡ true) c m.heard t c.state m.heard.kind
    (record {
      contradicted = λ asked due is q. absurd (false≢true (subst (λ (s : NetState). is_settled_in s c.origin ≡ true) is h));
      unacknowledged = λ asked due is q. absurd (false≢true (subst (λ (s : NetState). is_settled_in s c.origin ≡ true) is h));
      connected = λ due is q. absurd (false≢true (subst (λ (s : NetState). is_settled_in s c.origin ≡ true) is h));
      put_off = λ offer due is q. absurd (false≢true (subst (λ (s : NetState). is_settled_in s c.origin ≡ true) is h));
      unconnected = λ asked due is q. absurd (false≢true (subst (λ (s : NetState). is_settled_in s c.origin ≡ true) is h));
      ringing = λ due is q. absurd (false≢true (subst (λ (s : NetState). is_settled_in s c.origin ≡ true) is h));
    })
    (up_row c.reference c.channel c.origin (net_awake_state c.state) a m.heard t m.heard.kind (awake_settled c.state c.origin h) (subst (λ ch. clears_by ch m.heard m.heard.kind ≡ false) (sym fits.channel) spared))
up_hears t e m s fits spared h = absurd (false≢true h)

-- it reports in N6, asked, that it has not answered yet
rung_at : (r ch : ℕ) (o : NetOrigin) (a : Activity) (m : Heard) (t due : ℕ) (k : Kind) → net_is_ringing (CallPresent offers.Asked due) m k ≡ true → GoesOn r o (CallPresent offers.Asked due) k (follows a t (net_to (call_of r ch o (CallPresent offers.Asked due)) None (net_rung t m.state))).standing
rung_at r ch o a m t due Status q = by_cases (is_alerted m.state) _ _ (λ (x : NetState). GoesOn r o (CallPresent offers.Asked due) Status (follows a t (net_to (call_of r ch o (CallPresent offers.Asked due)) None x)).standing)
    (λ _. keep_row r ch o _ _ _ _ refl refl (rings_on Status refl))
    (λ _. keep_row r ch o _ _ _ _ refl refl (rings_on Status refl))
rung_at r ch o a m t due k q = absurd (false≢true q)

rung_on : (r ch : ℕ) (o : NetOrigin) (a : Activity) (m : Heard) (t : ℕ) (k : Kind) (s : NetState) (due : ℕ) → s ≡ CallPresent offers.Asked due → net_is_ringing s m k ≡ true → GoesOn r o (net_awake_state s) k (follows a t (net_to (call_of r ch o s) None (net_rung t m.state))).standing
rung_on r ch o a m t k s due is q = subst (λ (y : NetState). net_is_ringing y m k ≡ true → GoesOn r o (net_awake_state y) k (follows a t (net_to (call_of r ch o y) None (net_rung t m.state))).standing) (sym is) (rung_at r ch o a m t due k) q

-- one that rings
rings_hears : (t : ℕ) (e0 e : Entry) (m : Said) (octets : List ℕ) (rest : List (List ℕ)) (s : Standing) → StandingFits t e s → said_in_octets octets ≡ Some m → clears_by e.channel m.heard m.heard.kind ≡ false → is_ringing s ≡ true → ((x : Said) → names_call x s ≡ names x e0) → is_told (λ x. is_connect x.kind) e0 (octets ∷ rest) ≡ true → GoesOnTo e0 rest (with_standing e (hears m t s).standing)
rings_hears t e0 e m octets rest (OnCall c a) fits is spared rings named told =
    let x = net_awake_state c.state in
    let p = ringing_going (OnCall (call_of c.reference c.channel c.origin x) a) (awake_ringing c.state rings) in
    let g : GoesOn c.reference c.origin x m.heard.kind (hears m t (OnCall c a)).standing = heard_by (λ (y : Transition PlainNetCall). GoesOn c.reference c.origin x m.heard.kind (follows a t y).standing) c m.heard t c.state m.heard.kind
    (record {
      contradicted = λ asked due is q. absurd (false≢true (subst (λ (s : NetState). is_ringing_in s ≡ true) is rings));
      unacknowledged = λ asked due is q. absurd (false≢true (subst (λ (s : NetState). is_ringing_in s ≡ true) is rings));
      connected = λ due is q. keep_row c.reference c.channel c.origin _ _ _ _ refl refl (λ _. refl);
      put_off = λ offer due is q. absurd (true≢false (sym (put_off_clears e.channel c.state m.heard m.heard.kind q) ∙ spared));
      unconnected = λ asked due is q. absurd (false≢true (subst (λ (s : NetState). is_ringing_in s ≡ true) is rings));
      ringing = λ due is q. rung_on c.reference c.channel c.origin a m.heard t m.heard.kind c.state due is q;
    })
    (going_row c.reference c.channel c.origin x a m.heard t m.heard.kind (not_going (net_is_clearing x) p.0) p.1 (subst (λ ch. clears_by ch m.heard m.heard.kind ≡ false) (sym fits.channel) spared)) in
    decide (is_ringing (hears m t (OnCall c a)).standing)
    (λ still. Rings still (λ x. names_same x c.reference c.origin (hears m t (OnCall c a)).standing g.same ∙ named x)
    (decide (is_connect m.heard.kind)
    (λ connect. absurd (true≢false (sym still ∙ g.up (inr connect))))
    (λ other. told_rest (λ x. is_connect x.kind) e0 octets rest (Some m) is (none_and (names m e0) (is_connect m.heard.kind) other) told)))
    (λ quiet. Settled (settled_of (hears m t (OnCall c a)).standing g.going quiet g.third))
rings_hears t e0 e m octets rest Refused fits is spared rings named told = absurd (false≢true rings)
rings_hears t e0 e m octets rest s fits is spared rings named told = absurd (false≢true rings)

-- one that is asked for
asked_hears : (t : ℕ) (e : Entry) (m : Said) (s : Standing) → StandingFits t e s → clears_by e.channel m.heard m.heard.kind ≡ false → contradicts s m.heard ≡ false → is_enquired s ≡ true → is_up (hears m t s).standing ≡ true
asked_hears t e m (OnCall c a) fits spared agrees h = heard_by (λ (x : Transition PlainNetCall). is_up (follows a t x).standing ≡ true) c m.heard t c.state m.heard.kind
    (record {
      contradicted = λ asked due is q. absurd (true≢false (sym q ∙ agrees));
      unacknowledged = λ asked due is q. refl;
      connected = λ due is q. absurd (false≢true (subst (λ (s : NetState). is_asked s ≡ true) is h));
      put_off = λ offer due is q. absurd (false≢true (subst (λ (s : NetState). is_asked s ≡ true) is h));
      unconnected = λ asked due is q. refl;
      ringing = λ due is q. absurd (false≢true (subst (λ (s : NetState). is_asked s ≡ true) is h));
    })
    (asked_row c.reference c.channel c.origin c.state a m.heard t m.heard.kind h (subst (λ ch. clears_by ch m.heard m.heard.kind ≡ false) (sym fits.channel) spared))
asked_hears t e m s fits spared agrees h = absurd (false≢true h)

pub asked_going : (s : Standing) → is_enquired s ≡ true → is_going s ≡ true
asked_going (OnCall c a) h = at c.state h
  where
    at : (x : NetState) → is_asked x ≡ true → not (net_is_clearing x) ≡ true
    at (Enquiring asked due) p = refl
    at OutgoingCallProceeding p = refl
    at (CallPresent again due) p = refl
    at (IncomingCallProceeding due) p = refl
    at (CallReceived due) p = refl
    at Active p = refl
    at (DisconnectIndication cause due) p = absurd (false≢true p)
    at (ReleaseRequest again cause due) p = absurd (false≢true p)
asked_going s h = absurd (false≢true h)

unsettled_from : (s : Standing) → is_third_call s ≡ false → is_enquired s ≡ false → is_unsettled_call s ≡ false
unsettled_from (OnCall c a) p q = at c.state p q
  where
    at : (x : NetState) → is_third x ≡ false → is_asked x ≡ false → is_unsettled x ≡ false
    at OutgoingCallProceeding p q = p
    at (Enquiring asked due) p q = q
    at (CallPresent again due) p q = refl
    at (IncomingCallProceeding due) p q = refl
    at (CallReceived due) p q = refl
    at Active p q = refl
    at (DisconnectIndication cause due) p q = refl
    at (ReleaseRequest again cause due) p q = refl
unsettled_from s p q = refl

pub fits_now : (rows : List Row) (assigned : List (Option ℕ)) (t i : ℕ) (d : Day) → IsHearing rows assigned t d → StandingFits t (entry_at d.entries i) (standing_at d i)
fits_now rows assigned t i d h = subst (λ n. StandingFits n (entry_at d.entries i) (standing_at d i)) h.turn.moment (fits_at d i h.turn.fits.day)

spared_both : (d : Day) (octets : List ℕ) (i : ℕ) (m : Said) → Spares octets d → said_in_octets octets ≡ Some m → is_going (standing_at d i) ≡ true → names m (entry_at d.entries i) ≡ true → (clears_by (entry_at d.entries i).channel m.heard m.heard.kind ≡ false) × (contradicts (standing_at d i) m.heard ≡ false)
spared_both d octets i m spares is going named =
    let test : Heard → Bool = λ x. clears_by (entry_at d.entries i).channel x x.kind || contradicts (standing_at d i) x in
    or_parts (clears_by (entry_at d.entries i).channel m.heard m.heard.kind) (contradicts (standing_at d i) m.heard)
    (and_rest (names m (entry_at d.entries i)) (test m.heard) false named (sym (ap (tells test (entry_at d.entries i)) is) ∙ spares i going))

pub spared_now : (d : Day) (octets : List ℕ) (i : ℕ) (m : Said) → Spares octets d → said_in_octets octets ≡ Some m → is_going (standing_at d i) ≡ true → names m (entry_at d.entries i) ≡ true → clears_by (entry_at d.entries i).channel m.heard m.heard.kind ≡ false
spared_now d octets i m spares is going named = (spared_both d octets i m spares is going named).0

pub spared_report : (d : Day) (octets : List ℕ) (i : ℕ) (m : Said) → Spares octets d → said_in_octets octets ≡ Some m → is_going (standing_at d i) ≡ true → names m (entry_at d.entries i) ≡ true → contradicts (standing_at d i) m.heard ≡ false
spared_report d octets i m spares is going named = (spared_both d octets i m spares is going named).1

pub live_not_open : (d : Day) (e : Entry) → is_live e.standing ≡ true → is_open d e ≡ true → ⊥
live_not_open d e live op = no (e.standing) live (is_open_unoffered d e op)
  where
    no : (s : Standing) → is_live s ≡ true → is_unoffered s ≡ true → ⊥
    no (OnCall c a) l u = false≢true u
    no s l u = false≢true l

going_octets : (rows : List Row) (assigned : List (Option ℕ)) (t i : ℕ) (e0 : Entry) (octets : List ℕ) (rest : List (List ℕ)) (d : Day) → IsHearing rows assigned t d → Spares octets d → GoesOnTo e0 (octets ∷ rest) (entry_at d.entries i) → GoesOnTo e0 rest (entry_at (receive_octets d octets).day.entries i)
going_octets rows assigned t i e0 octets rest d h spares g = at (said_in_octets octets) refl g
  where
    e : Entry
    e = entry_at d.entries i

    at : (o : Option Said) → said_in_octets octets ≡ o → GoesOnTo e0 (octets ∷ rest) e → GoesOnTo e0 rest (entry_at (receive_octets d octets).day.entries i)
    at None is (Settled up) = heard_none (GoesOnTo e0 rest) d octets i is (Settled up)
    at None is (Rings rings named told) = heard_none (GoesOnTo e0 rest) d octets i is (Rings rings named (told_rest (λ x. is_connect x.kind) e0 octets rest None is refl told))
    at None is (Asked asked named told) = heard_none (GoesOnTo e0 rest) d octets i is (Asked asked named (told_rest (λ x. true) e0 octets rest None is refl told))
    at (Some m) is (Settled up) = decide (names m e)
        (λ here. subst (GoesOnTo e0 rest) (sym (heard_here rows assigned t d octets i m h is here)) (Settled (up_hears t e m e.standing (fits_now rows assigned t i d h) (spared_now d octets i m spares is (up_going e.standing up) here) up)))
        (λ other. heard_other (GoesOnTo e0 rest) d octets i m is other (Settled up) (λ op. absurd (live_not_open d e (going_live e.standing (up_going e.standing up)) op)))
    at (Some m) is (Rings rings named told) = decide (names m e)
        (λ here. subst (GoesOnTo e0 rest) (sym (heard_here rows assigned t d octets i m h is here)) (rings_hears t e0 e m octets rest e.standing (fits_now rows assigned t i d h) is (spared_now d octets i m spares is (ringing_going e.standing rings).0 here) rings named told))
        (λ other. heard_other (GoesOnTo e0 rest) d octets i m is other (Rings rings named (told_rest (λ x. is_connect x.kind) e0 octets rest (Some m) is (and_none (names m e0) (is_connect m.heard.kind) (sym (named m) ∙ other)) told)) (λ op. absurd (live_not_open d e (going_live e.standing (ringing_going e.standing rings).0) op)))
    at (Some m) is (Asked asked named told) = decide (names m e)
        (λ here. subst (GoesOnTo e0 rest) (sym (heard_here rows assigned t d octets i m h is here)) (Settled (asked_hears t e m e.standing (fits_now rows assigned t i d h) (spared_now d octets i m spares is (asked_going e.standing asked) here) (spared_report d octets i m spares is (asked_going e.standing asked) here) asked)))
        (λ other. heard_other (GoesOnTo e0 rest) d octets i m is other (Asked asked named (told_rest (λ x. true) e0 octets rest (Some m) is (and_none (names m e0) true (sym (named m) ∙ other)) told)) (λ op. absurd (live_not_open d e (going_live e.standing (asked_going e.standing asked)) op)))

going_all : (rows : List Row) (assigned : List (Option ℕ)) (t i : ℕ) (e0 : Entry) (received : List (List ℕ)) (d : Day) → IsHearing rows assigned t d → SparesAll received d → GoesOnTo e0 received (entry_at d.entries i) → GoesOnTo e0 [] (entry_at (heard_in received d).entries i)
going_all rows assigned t i e0 [] d h spares g = g
going_all rows assigned t i e0 (octets ∷ rest) d h spares g = going_all rows assigned t i e0 rest (receive_octets d octets).day (hears_next rows assigned t d octets h) spares.1 (going_octets rows assigned t i e0 octets rest d h spares.0 g)

-- ---- a booking whose call does not go on: it has none, is being cleared, or is called

pub data Passes (e0 : Entry) (rest : List (List ℕ)) (e : Entry) : Type 0 where
  Idle : is_live e.standing ≡ false → Passes e0 rest e
  Called : is_up e.standing ≡ true → Passes e0 rest e
  Clears : is_clearing e.standing ≡ true → ((m : Said) → names m e ≡ names m e0) → is_told (λ m. is_release m.kind) e0 rest ≡ true → Passes e0 rest e

clearing_live : (s : Standing) → is_clearing s ≡ true → is_live s ≡ true
clearing_live (OnCall c a) h = refl
clearing_live s h = absurd (false≢true h)

pub clears_hears : (t : ℕ) (e0 e : Entry) (m : Said) (octets : List ℕ) (rest : List (List ℕ)) (s : Standing) → said_in_octets octets ≡ Some m → is_clearing s ≡ true → ((x : Said) → names_call x s ≡ names x e0) → is_told (λ x. is_release x.kind) e0 (octets ∷ rest) ≡ true → Passes e0 rest (with_standing e (hears m t s).standing)
clears_hears t e0 e m octets rest (OnCall c a) is clearing named told =
    let g : GetsCleared c.reference c.origin m.heard.kind (hears m t (OnCall c a)).standing = heard_by (λ (x : Transition PlainNetCall). GetsCleared c.reference c.origin m.heard.kind (follows a t x).standing) c m.heard t c.state m.heard.kind
    (record {
      contradicted = λ asked due is q. absurd (false≢true (subst (λ (s : NetState). net_is_clearing s ≡ true) is clearing));
      unacknowledged = λ asked due is q. absurd (false≢true (subst (λ (s : NetState). net_is_clearing s ≡ true) is clearing));
      connected = λ due is q. absurd (false≢true (subst (λ (s : NetState). net_is_clearing s ≡ true) is clearing));
      put_off = λ offer due is q. absurd (false≢true (subst (λ (s : NetState). net_is_clearing s ≡ true) is clearing));
      unconnected = λ asked due is q. absurd (false≢true (subst (λ (s : NetState). net_is_clearing s ≡ true) is clearing));
      ringing = λ due is q. absurd (false≢true (subst (λ (s : NetState). net_is_clearing s ≡ true) is clearing));
    })
    (cleared_row c.reference c.channel c.origin (net_awake_state c.state) a m.heard t m.heard.kind (awake_clearing c.state clearing)) in
    decide (is_live (hears m t (OnCall c a)).standing)
    (λ live. Clears (g.clearing live) (λ x. names_same x c.reference c.origin (hears m t (OnCall c a)).standing (g.same live) ∙ named x)
    (decide (is_release m.heard.kind)
    (λ release. absurd (true≢false (sym live ∙ g.over release)))
    (λ other. told_rest (λ x. is_release x.kind) e0 octets rest (Some m) is (none_and (names m e0) (is_release m.heard.kind) other) told)))
    (λ over. Idle over)
clears_hears t e0 e m octets rest Refused is clearing named told = absurd (false≢true clearing)
clears_hears t e0 e m octets rest s is clearing named told = absurd (false≢true clearing)

pub passing_octets : (rows : List Row) (assigned : List (Option ℕ)) (t i : ℕ) (e0 : Entry) (octets : List ℕ) (rest : List (List ℕ)) (d : Day) → IsHearing rows assigned t d → Spares octets d → Passes e0 (octets ∷ rest) (entry_at d.entries i) → Passes e0 rest (entry_at (receive_octets d octets).day.entries i)
passing_octets rows assigned t i e0 octets rest d h spares g = at (said_in_octets octets) refl g
  where
    e : Entry
    e = entry_at d.entries i

    at : (o : Option Said) → said_in_octets octets ≡ o → Passes e0 (octets ∷ rest) e → Passes e0 rest (entry_at (receive_octets d octets).day.entries i)
    at None is (Idle idle) = heard_none (Passes e0 rest) d octets i is (Idle idle)
    at None is (Called up) = heard_none (Passes e0 rest) d octets i is (Called up)
    at None is (Clears clearing named told) = heard_none (Passes e0 rest) d octets i is (Clears clearing named (told_rest (λ x. is_release x.kind) e0 octets rest None is refl told))
    at (Some m) is (Idle idle) = heard_other (Passes e0 rest) d octets i m is (false_from_ne_true (names m e) (λ named. true≢false (sym (names_live m e.standing named) ∙ idle))) (Idle idle) (λ op. Called refl)
    at (Some m) is (Called up) = decide (names m e)
        (λ here. subst (Passes e0 rest) (sym (heard_here rows assigned t d octets i m h is here)) (Called (up_hears t e m e.standing (fits_now rows assigned t i d h) (spared_now d octets i m spares is (up_going e.standing up) here) up)))
        (λ other. heard_other (Passes e0 rest) d octets i m is other (Called up) (λ op. Called refl))
    at (Some m) is (Clears clearing named told) = decide (names m e)
        (λ here. subst (Passes e0 rest) (sym (heard_here rows assigned t d octets i m h is here)) (clears_hears t e0 e m octets rest e.standing is clearing named told))
        (λ other. heard_other (Passes e0 rest) d octets i m is other (Clears clearing named (told_rest (λ x. is_release x.kind) e0 octets rest (Some m) is (and_none (names m e0) (is_release m.heard.kind) (sym (named m) ∙ other)) told)) (λ op. Called refl))

passing_all : (rows : List Row) (assigned : List (Option ℕ)) (t i : ℕ) (e0 : Entry) (received : List (List ℕ)) (d : Day) → IsHearing rows assigned t d → SparesAll received d → Passes e0 received (entry_at d.entries i) → Passes e0 [] (entry_at (heard_in received d).entries i)
passing_all rows assigned t i e0 [] d h spares g = g
passing_all rows assigned t i e0 (octets ∷ rest) d h spares g = passing_all rows assigned t i e0 rest (receive_octets d octets).day (hears_next rows assigned t d octets h) spares.1 (passing_octets rows assigned t i e0 octets rest d h spares.0 g)

-- ---- a turn

up_settled : (s : Standing) → is_up s ≡ true → OnLive s (λ c a. is_settled c ≡ true)
up_settled (OnCall c a) h = h
up_settled s h = tt

idle_settled : (s : Standing) → is_live s ≡ false → OnLive s (λ c a. is_settled c ≡ true)
idle_settled (OnCall c a) h = absurd (true≢false h)
idle_settled s h = tt

pub going_or : (s : Standing) → is_going s ≡ false → (is_live s ≡ false) ⊎ (is_clearing s ≡ true)
going_or (OnCall c a) g = inr (at (net_is_clearing c.state) g)
  where
    at : (b : Bool) → not b ≡ false → b ≡ true
    at true x = refl
    at false x = absurd (true≢false x)
going_or s g = inl refl

-- what a turn leaves of each booking, where its call is connected if it rings
pub record IsLeft (called left : Day) (i : ℕ) : Type 0 where
  pub settled : OnLive (standing_at left i) (λ call a. is_settled call ≡ true)
  pub kept : is_going (standing_at called i) ≡ true → is_live (standing_at left i) ≡ true

pub left_at : (rows : List Row) (assigned : List (Option ℕ)) (t i : ℕ) (received : List (List ℕ)) (d : Day) → IsHearing rows assigned t d → ClearsTurn d received → (is_ringing (standing_at d i) ≡ true → is_told (λ m. is_connect m.kind) (entry_at d.entries i) received ≡ true) → is_third_call (standing_at d i) ≡ false → IsLeft d (heard_in received d) i
left_at rows assigned t i received d h clears connected third = decide (is_going (standing_at d i))
    (λ going. going_left (going_all rows assigned t i (entry_at d.entries i) received d h clears.spared
    (decide (is_ringing (standing_at d i)) (λ rings. Rings rings (λ m. refl) (connected rings)) (λ quiet. decide (is_enquired (standing_at d i)) (λ asked. Asked asked (λ m. refl) (clears.awake i asked)) (λ calm. Settled (settled_of (standing_at d i) going quiet (unsettled_from (standing_at d i) third calm)))))))
    (λ other. passing_left other (passing_all rows assigned t i (entry_at d.entries i) received d h clears.spared
    (elim (going_or (standing_at d i) other) [ inl idle ↦ Idle idle | inr clearing ↦ Clears clearing (λ m. refl) (clears.released i clearing) ])))
  where
    left : Day
    left = heard_in received d

    going_left : GoesOnTo (entry_at d.entries i) [] (entry_at left.entries i) → IsLeft d left i
    going_left (Settled up) = record { settled = up_settled (standing_at left i) up; kept = λ _. going_live (standing_at left i) (up_going (standing_at left i) up) }
    going_left (Rings rings named told) = absurd (false≢true told)
    going_left (Asked asked named told) = absurd (false≢true told)

    passing_left : is_going (standing_at d i) ≡ false → Passes (entry_at d.entries i) [] (entry_at left.entries i) → IsLeft d left i
    passing_left other (Idle idle) = record { settled = idle_settled (standing_at left i) idle; kept = λ going. absurd (true≢false (sym going ∙ other)) }
    passing_left other (Called up) = record { settled = up_settled (standing_at left i) up; kept = λ going. absurd (true≢false (sym going ∙ other)) }
    passing_left other (Clears clearing named told) = absurd (false≢true told)

pub turn_answered : (rows : List Row) (assigned : List (Option ℕ)) (t : ℕ) (received : List (List ℕ)) (d : Day) → IsHearing rows assigned t d → Answers d received → ((i : ℕ) → is_third_call (standing_at d i) ≡ false) → IsAllAnswered d (heard_in received d)
turn_answered rows assigned t received d h ok third = record {
  settled = λ i. (left_at rows assigned t i received d h ok.clears (ok.connected i) (third i)).settled;
  kept = λ i going. (left_at rows assigned t i received d h ok.clears (ok.connected i) (third i)).kept going;
}

pub all_heard : (rows : List Row) (assigned : List (Option ℕ)) (t : ℕ) (received : List (List ℕ)) (d : Day) → IsHearing rows assigned t d → IsHearing rows assigned t (heard_in received d)
all_heard rows assigned t [] d h = h
all_heard rows assigned t (octets ∷ rest) d h = all_heard rows assigned t rest (receive_octets d octets).day (hears_next rows assigned t d octets h)
