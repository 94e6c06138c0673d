-- The exchange in a turn: it hears what the far end has said, and answers.
use Rattle.std.proofs.Common.{◌≡◌, ◌≢◌, ◌⊎◌, inl, inr, ℕ, zero, suc, ◌+◌, ◌<◌, ◌==◌, ◌&&◌, ◌||◌, ◌%◌, slice_set, not, Bool, true, false, List, [], ◌∷◌, ◌++◌, length, map, Option, Some, None, refl, sym, ap, subst, ◌∙◌, arith, if◌then◌else◌}
use Rattle.std.specs.List.{AllByRecursion, list_any, position}
use Rattle.std.proofs.lemmas.Bool.{false≢true, true≢false, and_from, and_parts, eq-eqb, eqb-true, or_left, or_from, cases_eq, false_from_ne_true}
use Rattle.std.proofs.lemmas.List.{append-nil, append_assoc}
use Rattle.bx_base.specs.Bookings.{Row}
use Rattle.bx_q931.specs.declared.kind.Kind.{Kind}
use Rattle.bx_q931.specs.declared.kind.Kind.TheVariants.{Connect, ConnectAcknowledge, Release, ReleaseComplete, Status}
use Rattle.bx_q931.specs.Outgoing.{Outgoing, IsCallReference, out_octets, message_of, plain}
use Rattle.bx_q931.specs.Parts.{channel_part}
use Rattle.bx_q931.proofs.PartsLemmas.{written_again, has_parts}
use Rattle.bx_calls.specs.Hearing.{Heard, names_channel, reports_null, is_by_three}
use Rattle.bx_calls.specs.NetTable.{net_row, net_message, net_heard, net_is_contradicted, net_awake_state, net_flag, net_is_clearing, net_says, net_same, net_to, net_status, net_releases, net_put_off}
use Rattle.bx_calls.specs.PlainCalls.{PlainNetCall}
use Rattle.bx_calls.specs.Said.{Said, said_of}
use Rattle.bx_calls.specs.Sending.{Answered, unchanged, reply_list}
use Rattle.bx_calls.specs.Shared.{bool_eq}
use Rattle.bx_calls.specs.States.{state_value, net_state}
use Rattle.bx_calls.specs.Steps.{ends}
use Rattle.bx_calls.specs.UnknownTable.{unknown_status, refusal_of}
use Rattle.bx_calls.specs.declared.unknown_reference.Side.TheVariants.{Network}
use Rattle.bx_calls.specs.declared.times.Times.TheVariants.{Once}
use Rattle.bx_calls.specs.declared.net_state.Offer.TheVariants.{Asked, PutOff, Unlinked}
use Rattle.bx_calls.specs.declared.net_state.NetState.{NetState}
use Rattle.bx_calls.specs.declared.net_state.NetState.TheVariants as net
use Rattle.bx_calls.specs.declared.transition.Transition.{Transition}
use Rattle.bx_two_ends.specs.Answering.{is_ringing, is_clearing, is_enquired, said_in_octets, said_read, tells, clears_by, contradicts, Spares, SparesAll}
use Rattle.bx_day.specs.Day.{Day, entry_at, is_live}
use Rattle.bx_two_ends.specs.Earning.{heard_in, is_going}
use Rattle.bx_day.specs.Invariant.{StandingFits}
use Rattle.bx_day.specs.Law.{standing_at}
use Rattle.bx_day.specs.Moves.{follows, activity_after, is_active, over_at}
use Rattle.bx_day.specs.Receipts.{names, names_call, hears, received_at, stray, with_moved}
use Rattle.bx_day.specs.Run.{receive_octets}
use Rattle.bx_day.specs.declared.entry.Activity.{Activity}
use Rattle.bx_day.specs.declared.entry.Activity.TheVariants.{Never}
use Rattle.bx_day.specs.declared.entry.Entry.{Entry}
use Rattle.bx_day.specs.declared.entry.Moved.{Moved}
use Rattle.bx_day.specs.declared.entry.Standing.{Standing}
use Rattle.bx_day.specs.declared.entry.Standing.TheVariants.{Refused, OnCall}
use Rattle.bx_two_ends.specs.Asking.{is_asked}
use Rattle.bx_two_ends.proofs.Asking.{awake_unasked}
use Rattle.bx_two_ends.proofs.Answering.{IsHearing, hears_next, is_up, going_live}
use Rattle.bx_two_ends.proofs.Naming.{named_found, names_live, live_inside, outward_none, set_at}
use Rattle.bx_day.proofs.Law.{referred_by_row}
use Rattle.bx_day.proofs.Once.{decide}
use Rattle.bx_day.proofs.Said.{OfSaid}
use Rattle.bx_day.proofs.Tick.{with_standing}
use Rattle.bx_two_ends.proofs.Turning.{fits_at}
use Rattle.bx_two_ends.specs.Lockstep.{exchange_says}
use Rattle.bx_two_ends.proofs.Delivery.{Sendable, said_from, receive_sent, not_zero, heard_again}
use Rattle.bx_two_ends.proofs.FarTurns.{channel_of}
use Rattle.bx_two_ends.proofs.FarCalled.{FromFar, SaysBack, Releases, Connects, Reports, connects_as, releases_as, is_connect_of, is_release_of, ring_not_clear, ring_not_up, clear_not_up, ring_live, clear_live, skip, and_off, off_and}
use Rattle.bx_two_ends.proofs.FarAnswered.{Completes, Acks, Tells, FromExchange, completes_as, acks_as}
use Rattle.bx_two_ends.proofs.History.{from_beginner, from_other, is_from_beginner, other_parts, all_joined, has_more, has_new}
use Rattle.bx_two_ends.proofs.MessageLimits.{row_ok}
use Rattle.bx_two_ends.proofs.TickCalls.{OutwardIn, PresentIn, ActiveIn, IndicatedIn}

-- ---- how each booking stands, by what is still to come and what was said

pub record AtX (c : Day) (rest said : List Outgoing) (i : ℕ) (s : Standing) : Type 0 where
  pub ringing : is_ringing (standing_at c i) ≡ true → (OutwardIn PresentIn i s × (list_any (connects_as (suc i)) rest ≡ true)) ⊎ (OutwardIn ActiveIn i s × (list_any (acks_as (suc i)) said ≡ true))
  pub clearing : is_clearing (standing_at c i) ≡ true → (OutwardIn IndicatedIn i s × (list_any (releases_as (suc i)) rest ≡ true)) ⊎ ((is_live s ≡ false) × (list_any (completes_as (suc i)) said ≡ true))
  pub settled : is_up (standing_at c i) ≡ true → OutwardIn ActiveIn i s
  pub idle : is_live (standing_at c i) ≡ false → is_live s ≡ false

pub record Hears (rows : List Row) (assigned : List (Option ℕ)) (c : Day) (t : ℕ) (rest said : List Outgoing) (d : Day) : Type 0 where
  pub hearing : IsHearing rows assigned t d
  pub channel : (i : ℕ) → channel_of d i ≡ channel_of c i
  pub calls : (i : ℕ) → AtX c rest said i (standing_at d i)

other_of : (i j : ℕ) (o : Outgoing) → o.reference ≡ suc i → j ≢ i → from_other (suc j) o ≡ false
other_of i j o ref ne = false_from_ne_true (from_other (suc j) o) (λ h. let p : suc i ≡ suc j = sym ref ∙ (other_parts (suc j) o h).0 in ne (omega (arith, p)))

stays_x : (c : Day) (i j : ℕ) (o : Outgoing) (rest said more : List Outgoing) (s : Standing) → o.reference ≡ suc i → j ≢ i → AtX c (o ∷ rest) said j s → AtX c rest (said ++ more) j s
stays_x c i j o rest said more s ref ne h = record {
  ringing = λ r. elim (h.ringing r) [ inl p ↦ inl (p.0, skip (connects_as (suc j)) o rest (and_off (from_other (suc j) o) (is_connect_of o.kind) (other_of i j o ref ne)) p.1) | inr q ↦ inr (q.0, has_more (acks_as (suc j)) said more q.1) ];
  clearing = λ r. elim (h.clearing r) [ inl p ↦ inl (p.0, skip (releases_as (suc j)) o rest (and_off (from_other (suc j) o) (is_release_of o.kind) (other_of i j o ref ne)) p.1) | inr q ↦ inr (q.0, has_more (completes_as (suc j)) said more q.1) ];
  settled = h.settled;
  idle = h.idle;
}

-- ---- a message as it is heard

pub said_again : (o : Outgoing) → Sendable o → said_in_octets (out_octets o) ≡ Some (said_from o)
said_again o h =
    ap said_read (written_again o h.out h.called)
    ∙ ap (λ (b : Bool). if b then None else Some (said_of o.reference o.flag (message_of o))) (not_zero o.reference h.out.reference.0)
    ∙ ap (λ x. Some x) (heard_again o (has_parts o h.out h.channel h.called))

-- a live outward call is named by its reference
pub names_outward : (P : NetState → Type 0) (i : ℕ) (m : Said) (s : Standing) → OutwardIn P i s → m.reference ≡ suc i → m.flag ≡ true → names_call m s ≡ true
names_outward P i m (OnCall c a) h ref flag = and_from (c.reference == m.reference) (bool_eq (net_flag c.origin) (not m.flag)) (eq-eqb c.reference m.reference (h.1.0 ∙ sym ref)) (ap (λ b. bool_eq b (not m.flag)) h.1.1 ∙ ap (λ b. bool_eq false (not b)) flag)
names_outward P i m s h ref flag = absurd h

-- what is left of hearing one
abbrev HeardX : List Row → List (Option ℕ) → Day → ℕ → List Outgoing → List Outgoing → Answered Day → Type 0
HeardX rows assigned c t rest said a = ((i : ℕ) → channel_of a.day i ≡ channel_of c i) × (((i : ℕ) → AtX c rest (said ++ reply_list a.reply) i (standing_at a.day i)) × AllByRecursion (FromExchange c) (reply_list a.reply))

heard_x : (rows : List Row) (assigned : List (Option ℕ)) (c : Day) (t i : ℕ) (o : Outgoing) (rest said : List Outgoing) (d : Day) → Sendable o → o.reference ≡ suc i → o.flag ≡ true → Hears rows assigned c t (o ∷ rest) said d → names (said_from o) (entry_at d.entries i) ≡ true
    → AtX c rest (said ++ reply_list (hears (said_from o) d.moment (standing_at d i)).said) i (hears (said_from o) d.moment (standing_at d i)).standing → AllByRecursion (FromExchange c) (reply_list (hears (said_from o) d.moment (standing_at d i)).said) → HeardX rows assigned c t rest said (receive_octets d (out_octets o))
heard_x rows assigned c t i o rest said d ok ref flag h named mine replies =
    let m : Said = said_from o in
    let mv : Moved = hears m d.moment (standing_at d i) in
    let eq : receive_octets d (out_octets o) ≡ with_moved d i mv = receive_sent d o ok ∙ ap (received_at d m) (named_found d i m h.hearing.exchange (referred_by_row rows assigned d h.hearing.turn.fits) h.hearing.once named) in
    subst (HeardX rows assigned c t rest said) (sym eq) (
      (λ j. set_at (λ e. e.channel ≡ channel_of c j) d.entries i j (with_standing (entry_at d.entries i) mv.standing) (λ same lt. subst (λ k. channel_of d i ≡ channel_of c k) same (h.channel i)) (h.channel j)),
      (
        (λ j. elim (cases_eq j i) [
          | inl same ↦ subst (λ k. AtX c rest (said ++ reply_list mv.said) k (standing_at (with_moved d i mv).day k)) (sym same) (set_here d.entries i mv (λ s. AtX c rest (said ++ reply_list mv.said) i s) (live_inside d.entries i (names_live m (standing_at d i) named)) mine)
          | inr other ↦ set_at (λ e. AtX c rest (said ++ reply_list mv.said) j e.standing) d.entries i j (with_standing (entry_at d.entries i) mv.standing) (λ same lt. absurd (other (sym same))) (stays_x c i j o rest said (reply_list mv.said) (standing_at d j) ref other (h.calls j))
        ]),
        replies,
      ),
    )
  where
    set_here : (es : List Entry) (k : ℕ) (mv : Moved) (P : Standing → Type 0) → k < length es → P mv.standing → P (entry_at (slice_set es k (with_standing (entry_at es k) mv.standing)) k).standing
    set_here [] k mv P lt p = absurd (omega (arith, lt))
    set_here (e ∷ es) zero mv P lt p = p
    set_here (e ∷ es) (suc k) mv P lt p = set_here es k mv P (omega (arith, lt)) p

-- a message to a call that is over
stray_x : (rows : List Row) (assigned : List (Option ℕ)) (c : Day) (t i : ℕ) (o : Outgoing) (rest said : List Outgoing) (d : Day) → Sendable o → o.reference ≡ suc i → o.flag ≡ true → Hears rows assigned c t (o ∷ rest) said d → is_live (standing_at d i) ≡ false → (x : Answered Day) → stray d (said_from o) o.kind ≡ x → x.day ≡ d
    → AtX c rest (said ++ reply_list x.reply) i (standing_at d i) → AllByRecursion (FromExchange c) (reply_list x.reply) → HeardX rows assigned c t rest said (receive_octets d (out_octets o))
stray_x rows assigned c t i o rest said d ok ref flag h over x is same mine replies =
    let m : Said = said_from o in
    let none : position (names m) d.entries ≡ None = outward_none d m i h.hearing.exchange (referred_by_row rows assigned d h.hearing.turn.fits) flag (ref ∙ next i) (λ lt. false_from_ne_true (names m (entry_at d.entries i)) (λ named. true≢false (sym (names_live m (standing_at d i) named) ∙ over))) in
    let eq : receive_octets d (out_octets o) ≡ x = receive_sent d o ok ∙ ap (received_at d m) none ∙ is in
    subst (HeardX rows assigned c t rest said) (sym eq) (
      (λ j. ap (λ y. channel_of y j) same ∙ h.channel j),
      (
        (λ j. subst (λ y. AtX c rest (said ++ reply_list x.reply) j (standing_at y j)) (sym same) (elim (cases_eq j i) [
          | inl here ↦ subst (λ k. AtX c rest (said ++ reply_list x.reply) k (standing_at d k)) (sym here) mine
          | inr other ↦ stays_x c i j o rest said (reply_list x.reply) (standing_at d j) ref other (h.calls j)
        ])),
        replies,
      ),
    )
  where
    next : (n : ℕ) → suc n ≡ n + 1
    next n = omega arith

-- ---- which of three things a live one is after the tick

pub data Kinds (c : Day) (i : ℕ) : Type 0 where
  Ringing : is_ringing (standing_at c i) ≡ true → Kinds c i
  Clearing : is_clearing (standing_at c i) ≡ true → Kinds c i
  Settled : is_up (standing_at c i) ≡ true → Kinds c i

abbrev pub AllKinds : Day → Type 0
AllKinds c = (i : ℕ) → is_live (standing_at c i) ≡ true → Kinds c i

over_gone : (a : Activity) (t : ℕ) → is_live (over_at a t) ≡ false
over_gone Never t = refl
over_gone a t = refl

on_call : (P : NetState → Type 0) (i : ℕ) (Goal : Standing → Type 0) (s : Standing) → OutwardIn P i s → ((x : PlainNetCall) (a : Activity) → OutwardIn P i (OnCall x a) → Goal (OnCall x a)) → Goal s
on_call P i Goal (OnCall x a) h f = f x a h
on_call P i Goal s h f = absurd h

-- ---- rows of the table: none of these is asked for

and_off_last : (x y : Bool) → y ≡ false → (x && y) ≡ false
and_off_last true y q = q
and_off_last false y q = refl

pub present_awake : (s : NetState) → PresentIn s → net_awake_state s ≡ s
present_awake (net.Enquiring asked due) p = absurd p
present_awake s p = refl

pub active_awake : (s : NetState) → ActiveIn s → net_awake_state s ≡ s
active_awake (net.Enquiring asked due) p = absurd p
active_awake s p = refl

pub indicated_awake : (s : NetState) → IndicatedIn s → net_awake_state s ≡ s
indicated_awake (net.Enquiring asked due) p = absurd p
indicated_awake s p = refl

-- such a call does as the table of messages says
abbrev AsRow : PlainNetCall → Heard → ℕ → NetState → Kind → Type 0
AsRow x h t s k = net_heard x h t s k ≡ net_row (record x { state = s }) h t s k

present_connects : (x : PlainNetCall) (h : Heard) (t : ℕ) (s : NetState) → PresentIn s → AsRow x h t s Connect
present_connects x h t (net.CallPresent Asked due) p = absurd p
present_connects x h t (net.CallPresent offer due) p = refl
present_connects x h t s p = absurd p

put_off_on : (x : PlainNetCall) (h : Heard) (t : ℕ) (s : NetState) (b : Bool) → reports_null h.state ≡ false → (if b && reports_null h.state then net_to x None (net_put_off t s) else net_row (record x { state = s }) h t s Status) ≡ net_row (record x { state = s }) h t s Status
put_off_on x h t s b state = ap (λ v. if v then net_to x None (net_put_off t s) else net_row (record x { state = s }) h t s Status) (and_off_last b (reports_null h.state) state)

present_reports : (x : PlainNetCall) (h : Heard) (t : ℕ) (s : NetState) → PresentIn s → reports_null h.state ≡ false → AsRow x h t s Status
present_reports x h t (net.CallPresent Asked due) p state = absurd p
present_reports x h t (net.CallPresent PutOff due) p state = put_off_on x h t (net.CallPresent PutOff due) (is_by_three h.rules) state
present_reports x h t (net.CallPresent Unlinked due) p state = put_off_on x h t (net.CallPresent Unlinked due) (is_by_three h.rules) state
present_reports x h t (net.CallPresent offer due) p state = refl
present_reports x h t s p state = absurd p

active_row : (x : PlainNetCall) (h : Heard) (t : ℕ) (s : NetState) (k : Kind) → ActiveIn s → AsRow x h t s k
active_row x h t net.Active k p = refl
active_row x h t s k p = absurd p

indicated_row : (x : PlainNetCall) (h : Heard) (t : ℕ) (s : NetState) (k : Kind) → IndicatedIn s → AsRow x h t s k
indicated_row x h t (net.DisconnectIndication cause due) k p = refl
indicated_row x h t s k p = absurd p

active_reports : (x : PlainNetCall) (h : Heard) (t : ℕ) (s : NetState) → ActiveIn s → reports_null h.state ≡ false → AsRow x h t s Status
active_reports x h t s p state = active_row x h t s Status p

indicated_reports : (x : PlainNetCall) (h : Heard) (t : ℕ) (s : NetState) → IndicatedIn s → reports_null h.state ≡ false → AsRow x h t s Status
indicated_reports x h t s p state = indicated_row x h t s Status p

connect_row : (x : PlainNetCall) (h : Heard) (t : ℕ) (s : NetState) → PresentIn s → names_channel h.channel x.channel ≡ true → net_row x h t s Connect ≡ net_to x (Some (net_says x ConnectAcknowledge)) net.Active
connect_row x h t (net.CallPresent again due) p is = ap (λ b. if b then net_to x (Some (net_says x ConnectAcknowledge)) net.Active else net_releases x Once (Some 6) t) is
connect_row x h t s p is = absurd p

again_row : (x : PlainNetCall) (h : Heard) (t : ℕ) (s : NetState) → ActiveIn s → net_row x h t s Connect ≡ net_same x (Some (net_status x 101))
again_row x h t net.Active p = refl
again_row x h t s p = absurd p

release_row : (x : PlainNetCall) (h : Heard) (t : ℕ) (s : NetState) → IndicatedIn s → net_row x h t s Release ≡ ends (Some (net_says x ReleaseComplete))
release_row x h t (net.DisconnectIndication cause due) p = refl
release_row x h t s p = absurd p

report_row : (x : PlainNetCall) (h : Heard) (t : ℕ) (s : NetState) → reports_null h.state ≡ false → net_row x h t s Status ≡ net_same x None
report_row x h t s is = ap (λ b. if b then ends None else net_same x None) is

active_not_null : (s : NetState) → ActiveIn s → reports_null (Some (state_value (net_state s) % 64)) ≡ false
active_not_null net.Active p = refl
active_not_null s p = absurd p

plain_ok : (r : ℕ) (f : Bool) → IsCallReference r → Sendable (plain r f ReleaseComplete)
plain_ok r f h = record { out = record { reference = h; kind = tt; cause = tt; state = tt }; channel = tt; called = tt }

ack_ok : (r : ℕ) (f : Bool) → IsCallReference r → Sendable (plain r f ConnectAcknowledge)
ack_ok r f h = record { out = record { reference = h; kind = tt; cause = tt; state = tt }; channel = tt; called = tt }

refused_81 : (r : ℕ) (f : Bool) → IsCallReference r → Sendable (refusal_of Network r f 81)
refused_81 r f h = record { out = record { reference = h; kind = tt; cause = (omega arith, omega arith); state = tt }; channel = tt; called = tt }

refused_101 : (r : ℕ) (f : Bool) → IsCallReference r → Sendable (refusal_of Network r f 101)
refused_101 r f h = record { out = record { reference = h; kind = tt; cause = (omega arith, omega arith); state = tt }; channel = tt; called = tt }

-- ---- what each message leaves

-- of the booking that it is to, and what is said
abbrev Leaves : Day → ℕ → List Outgoing → List Outgoing → Said → ℕ → Standing → Type 0
Leaves c i rest said m t s = AtX c rest (said ++ reply_list (hears m t s).said) i (hears m t s).standing × AllByRecursion (FromExchange c) (reply_list (hears m t s).said)

-- by a step of its call
abbrev LeavesBy : Day → ℕ → List Outgoing → List Outgoing → Activity → ℕ → Transition PlainNetCall → Type 0
LeavesBy c i rest said a t step = AtX c rest (said ++ reply_list (follows a t step).said) i (follows a t step).standing × AllByRecursion (FromExchange c) (reply_list (follows a t step).said)

connect_present : (c : Day) (i : ℕ) (o : Outgoing) (rest said : List Outgoing) (d : Day) → is_ringing (standing_at c i) ≡ true → Sendable o → o.reference ≡ suc i → o.kind ≡ Connect → o.channel ≡ Some (channel_of c i, true) → channel_of d i ≡ channel_of c i → StandingFits d.moment (entry_at d.entries i) (standing_at d i) → OutwardIn PresentIn i (standing_at d i) → Leaves c i rest said (said_from o) d.moment (standing_at d i)
connect_present c i o rest said d r ok ref kind channel same fits p = go (standing_at d i) fits p
  where
    go : (s : Standing) → StandingFits d.moment (entry_at d.entries i) s → OutwardIn PresentIn i s → Leaves c i rest said (said_from o) d.moment s
    go (OnCall x a) f q =
        let h : Heard = (said_from o).heard in
        let on : names_channel h.channel x.channel ≡ true = ap (λ ch. names_channel (channel_part ch) x.channel) channel ∙ eq-eqb (channel_of c i) x.channel (sym same ∙ sym f.channel) in
        let row : net_message x h d.moment ≡ net_to x (Some (net_says x ConnectAcknowledge)) net.Active = ap (net_heard x h d.moment x.state) kind ∙ present_connects x h d.moment x.state q.0 ∙ connect_row x h d.moment x.state q.0 on in
        let out : Outgoing = net_says x ConnectAcknowledge in
        subst (LeavesBy c i rest said a d.moment) (sym row) (
          record {
            ringing = λ _. inr ((tt, q.1), has_new (acks_as (suc i)) said (out ∷ []) (or_left (acks_as (suc i) out) false (and_from (from_beginner (suc i) out) true (is_from_beginner (suc i) out q.1.0 q.1.1) refl)));
            clearing = λ k. absurd (ring_not_clear (standing_at c i) r k);
            settled = λ k. absurd (ring_not_up (standing_at c i) r k);
            idle = λ k. absurd (true≢false (sym (ring_live (standing_at c i) r) ∙ k));
          },
          (record { sendable = ack_ok x.reference (net_flag x.origin) (subst IsCallReference (ref ∙ sym q.1.0) ok.out.reference); flag = q.1.1; says = Acks i r q.1.0 refl }, tt),
        )
    go Refused f q = absurd q
    go s f q = absurd q

connect_again : (c : Day) (i t : ℕ) (o : Outgoing) (rest said : List Outgoing) (s : Standing) → is_ringing (standing_at c i) ≡ true → Sendable o → o.reference ≡ suc i → o.kind ≡ Connect → OutwardIn ActiveIn i s → list_any (acks_as (suc i)) said ≡ true → Leaves c i rest said (said_from o) t s
connect_again c i t o rest said s r ok ref kind p acked = on_call ActiveIn i (Leaves c i rest said (said_from o) t) s p (λ x a q.
    let h : Heard = (said_from o).heard in
    let plain_row : net_row x h t x.state o.kind ≡ net_same x (Some (net_status x 101)) = ap (net_row x h t x.state) kind ∙ again_row x h t x.state q.0 in
    let row : net_message x h t ≡ net_same x (Some (net_status x 101)) = active_row x h t x.state h.kind q.0 ∙ plain_row in
    let reference = subst IsCallReference (ref ∙ sym q.1.0) ok.out.reference in
    let sendable : Sendable (net_status x 101) = subst (λ (z : Transition PlainNetCall). OfSaid Sendable z.reply) plain_row (row_ok x.reference x.channel x.origin t h x.state o.kind reference) in
    subst (LeavesBy c i rest said a t) (sym row) (
      record {
        ringing = λ _. inr (q, has_more (acks_as (suc i)) said (net_status x 101 ∷ []) acked);
        clearing = λ k. absurd (ring_not_clear (standing_at c i) r k);
        settled = λ k. absurd (ring_not_up (standing_at c i) r k);
        idle = λ k. absurd (true≢false (sym (ring_live (standing_at c i) r) ∙ k));
      },
      (record { sendable = sendable; flag = q.1.1; says = Tells i r q.1.0 refl (active_not_null x.state q.0) }, tt),
    ))

release_indicated : (c : Day) (i t : ℕ) (o : Outgoing) (rest said : List Outgoing) (s : Standing) → is_clearing (standing_at c i) ≡ true → Sendable o → o.reference ≡ suc i → o.kind ≡ Release → OutwardIn IndicatedIn i s → Leaves c i rest said (said_from o) t s
release_indicated c i t o rest said s r ok ref kind p = on_call IndicatedIn i (Leaves c i rest said (said_from o) t) s p (λ x a q.
    let h : Heard = (said_from o).heard in
    let out : Outgoing = net_says x ReleaseComplete in
    let row : net_message x h t ≡ ends (Some out) = ap (net_heard x h t x.state) kind ∙ indicated_row x h t x.state Release q.0 ∙ release_row x h t x.state q.0 in
    subst (LeavesBy c i rest said a t) (sym row) (
      record {
        ringing = λ k. absurd (ring_not_clear (standing_at c i) k r);
        clearing = λ _. inr (over_gone a t, has_new (completes_as (suc i)) said (out ∷ []) (or_left (completes_as (suc i) out) false (and_from (from_beginner (suc i) out) true (is_from_beginner (suc i) out q.1.0 q.1.1) refl)));
        settled = λ k. absurd (clear_not_up (standing_at c i) r k);
        idle = λ _. over_gone a t;
      },
      (record { sendable = plain_ok x.reference (net_flag x.origin) (subst IsCallReference (ref ∙ sym q.1.0) ok.out.reference); flag = q.1.1; says = Completes i r q.1.0 refl }, tt),
    ))

-- a report to a live call leaves it as it is
report_live : (P : NetState → Type 0) → ((x : PlainNetCall) (h : Heard) (t : ℕ) (n : NetState) → P n → reports_null h.state ≡ false → AsRow x h t n Status) → (c : Day) (i t : ℕ) (o : Outgoing) (rest said : List Outgoing) (s : Standing) → o.kind ≡ Status → reports_null o.state ≡ false → OutwardIn P i s → ((x : PlainNetCall) (a : Activity) → s ≡ OnCall x a → AtX c rest (said ++ []) i (OnCall x (activity_after a (is_active x.state) t))) → Leaves c i rest said (said_from o) t s
report_live P w c i t o rest said (OnCall x a) kind state p f =
    let h : Heard = (said_from o).heard in
    let row : net_message x h t ≡ net_same x None = ap (net_heard x h t x.state) kind ∙ w x h t x.state p.0 state ∙ report_row x h t x.state state in
    subst (LeavesBy c i rest said a t) (sym row) (f x a refl, tt)
report_live P w c i t o rest said Refused kind state p f = absurd p
report_live P w c i t o rest said s kind state p f = absurd p

same_call : (P : NetState → Type 0) (i t : ℕ) (s : Standing) (x : PlainNetCall) (a : Activity) → OutwardIn P i s → s ≡ OnCall x a → OutwardIn P i (OnCall x (activity_after a (is_active x.state) t))
same_call P i t s x a p is = subst (OutwardIn P i) is p

-- ---- one message

up_is_live : (s : Standing) → is_up s ≡ true → is_live s ≡ true
up_is_live (OnCall x a) h = refl
up_is_live s h = absurd (false≢true h)

fits_here : (rows : List Row) (assigned : List (Option ℕ)) (t i : ℕ) (d : Day) → IsHearing rows assigned t d → StandingFits d.moment (entry_at d.entries i) (standing_at d i)
fits_here rows assigned t i d h = fits_at d i h.turn.fits.day

unknown_all : (c : Day) (i r : ℕ) (f : Bool) (st : Option ℕ) → is_clearing (standing_at c i) ≡ true → IsCallReference r → r ≡ suc i → f ≡ false → reports_null st ≡ false → AllByRecursion (FromExchange c) (reply_list (unknown_status Network r f st))
unknown_all c i r f None clearing ok ref bare null = tt
unknown_all c i r f (Some s) clearing ok ref bare null = subst (λ b. AllByRecursion (FromExchange c) (reply_list (if b then None else Some (refusal_of Network r f 101)))) (sym null)
    (record { sendable = refused_101 r f ok; flag = bare; says = Completes i clearing ref refl }, tt)

x_step : (rows : List Row) (assigned : List (Option ℕ)) (c : Day) (t : ℕ) (o : Outgoing) (rest said : List Outgoing) (d : Day) → AllKinds c → FromFar c o → Hears rows assigned c t (o ∷ rest) said d → HeardX rows assigned c t rest said (receive_octets d (out_octets o))
x_step rows assigned c t o rest said d kinds m h = at m.says
  where
    by : (P : NetState → Type 0) (i : ℕ) → o.reference ≡ suc i → OutwardIn P i (standing_at d i) → Leaves c i rest said (said_from o) d.moment (standing_at d i) → HeardX rows assigned c t rest said (receive_octets d (out_octets o))
    by P i ref p l = heard_x rows assigned c t i o rest said d m.sendable ref m.flag h (names_outward P i (said_from o) (standing_at d i) p ref m.flag) l.0 l.1

    gone : (i : ℕ) (x : Answered Day) → is_clearing (standing_at c i) ≡ true → o.reference ≡ suc i → is_live (standing_at d i) ≡ false → list_any (completes_as (suc i)) said ≡ true → stray d (said_from o) o.kind ≡ x → x.day ≡ d → AllByRecursion (FromExchange c) (reply_list x.reply) → HeardX rows assigned c t rest said (receive_octets d (out_octets o))
    gone i x r ref over done is same replies = stray_x rows assigned c t i o rest said d m.sendable ref m.flag h over x is same (record {
      ringing = λ k. absurd (ring_not_clear (standing_at c i) k r);
      clearing = λ _. inr (over, has_more (completes_as (suc i)) said (reply_list x.reply) done);
      settled = λ k. absurd (clear_not_up (standing_at c i) r k);
      idle = λ _. over;
    }) replies

    report : (i : ℕ) → o.reference ≡ suc i → o.kind ≡ Status → reports_null o.state ≡ false → Kinds c i → HeardX rows assigned c t rest said (receive_octets d (out_octets o))
    report i ref kind state (Ringing r) = elim ((h.calls i).ringing r) [
      | inl p ↦ by PresentIn i ref p.0 (report_live PresentIn present_reports c i d.moment o rest said (standing_at d i) kind state p.0 (λ x a is. record {
        ringing = λ _. inl (same_call PresentIn i d.moment (standing_at d i) x a p.0 is, skip (connects_as (suc i)) o rest (off_and (from_other (suc i) o) (is_connect_of o.kind) (ap is_connect_of kind)) p.1);
        clearing = λ k. absurd (ring_not_clear (standing_at c i) r k);
        settled = λ k. absurd (ring_not_up (standing_at c i) r k);
        idle = λ k. absurd (true≢false (sym (ring_live (standing_at c i) r) ∙ k));
      }))
      | inr p ↦ by ActiveIn i ref p.0 (report_live ActiveIn active_reports c i d.moment o rest said (standing_at d i) kind state p.0 (λ x a is. record {
        ringing = λ _. inr (same_call ActiveIn i d.moment (standing_at d i) x a p.0 is, has_more (acks_as (suc i)) said [] p.1);
        clearing = λ k. absurd (ring_not_clear (standing_at c i) r k);
        settled = λ k. absurd (ring_not_up (standing_at c i) r k);
        idle = λ k. absurd (true≢false (sym (ring_live (standing_at c i) r) ∙ k));
      }))
    ]
    report i ref kind state (Clearing r) = elim ((h.calls i).clearing r) [
      | inl p ↦ by IndicatedIn i ref p.0 (report_live IndicatedIn indicated_reports c i d.moment o rest said (standing_at d i) kind state p.0 (λ x a is. record {
        ringing = λ k. absurd (ring_not_clear (standing_at c i) k r);
        clearing = λ _. inl (same_call IndicatedIn i d.moment (standing_at d i) x a p.0 is, skip (releases_as (suc i)) o rest (off_and (from_other (suc i) o) (is_release_of o.kind) (ap is_release_of kind)) p.1);
        settled = λ k. absurd (clear_not_up (standing_at c i) r k);
        idle = λ k. absurd (true≢false (sym (clear_live (standing_at c i) r) ∙ k));
      }))
      | inr p ↦ gone i (unchanged d (unknown_status Network o.reference (not o.flag) o.state)) r ref p.0 p.1 (ap (stray d (said_from o)) kind) refl
          (unknown_all c i o.reference (not o.flag) o.state r m.sendable.out.reference ref (ap not m.flag) state)
    ]
    report i ref kind state (Settled u) = (let p = (h.calls i).settled u in by ActiveIn i ref p (report_live ActiveIn active_reports c i d.moment o rest said (standing_at d i) kind state p (λ x a is. record {
      ringing = λ k. absurd (ring_not_up (standing_at c i) k u);
      clearing = λ k. absurd (clear_not_up (standing_at c i) k u);
      settled = λ _. same_call ActiveIn i d.moment (standing_at d i) x a p is;
      idle = λ k. absurd (true≢false (sym (up_is_live (standing_at c i) u) ∙ k));
    })))

    at : SaysBack c o → HeardX rows assigned c t rest said (receive_octets d (out_octets o))
    at (Connects i r ref kind channel) = elim ((h.calls i).ringing r) [
      | inl p ↦ by PresentIn i ref p.0 (connect_present c i o rest said d r m.sendable ref kind channel (h.channel i) (fits_here rows assigned t i d h.hearing) p.0)
      | inr p ↦ by ActiveIn i ref p.0 (connect_again c i d.moment o rest said (standing_at d i) r m.sendable ref kind p.0 p.1)
    ]
    at (Releases i r ref kind) = elim ((h.calls i).clearing r) [
      | inl p ↦ by IndicatedIn i ref p.0 (release_indicated c i d.moment o rest said (standing_at d i) r m.sendable ref kind p.0)
      | inr p ↦ gone i (unchanged d (Some (refusal_of Network o.reference (not o.flag) 81))) r ref p.0 p.1 (ap (stray d (said_from o)) kind) refl
          (record { sendable = refused_81 o.reference (not o.flag) m.sendable.out.reference; flag = ap not m.flag; says = Completes i r ref refl }, tt)
    ]
    at (Reports i live ref kind state) = report i ref kind state (kinds i live)

-- ---- it clears no call that goes on

named_ref : (P : NetState → Type 0) (j : ℕ) (m : Said) (s : Standing) → OutwardIn P j s → names_call m s ≡ true → m.reference ≡ suc j
named_ref P j m (OnCall x a) p h = sym (eqb-true x.reference m.reference (and_parts (x.reference == m.reference) (bool_eq (net_flag x.origin) (not m.flag)) h).0) ∙ p.1.0
named_ref P j m s p h = absurd p

-- a message that names a live booking has its reference
live_ref : (c : Day) (rest said : List Outgoing) (j : ℕ) (m : Said) (s : Standing) → AllKinds c → AtX c rest said j s → is_live s ≡ true → names_call m s ≡ true → m.reference ≡ suc j
live_ref c rest said j m s kinds h live named = decide (is_live (standing_at c j))
    (λ was. at (kinds j was))
    (λ idle. absurd (true≢false (sym live ∙ h.idle idle)))
  where
    at : Kinds c j → m.reference ≡ suc j
    at (Ringing r) = elim (h.ringing r) [ inl p ↦ named_ref PresentIn j m s p.0 named | inr p ↦ named_ref ActiveIn j m s p.0 named ]
    at (Clearing r) = elim (h.clearing r) [ inl p ↦ named_ref IndicatedIn j m s p.0 named | inr p ↦ absurd (true≢false (sym live ∙ p.0)) ]
    at (Settled u) = named_ref ActiveIn j m s (h.settled u) named

indicated_not_going : (i : ℕ) (s : Standing) → OutwardIn IndicatedIn i s → is_going s ≡ true → ⊥
indicated_not_going i (OnCall x a) p g = at x.state p.0 g
  where
    at : (st : NetState) → IndicatedIn st → not (net_is_clearing st) ≡ true → ⊥
    at (net.DisconnectIndication cause due) q k = false≢true k
    at (net.Enquiring asked due) q k = q
    at net.Active q k = q
    at (net.CallPresent again due) q k = q
    at net.OutgoingCallProceeding q k = q
    at (net.IncomingCallProceeding due) q k = q
    at (net.CallReceived due) q k = q
    at (net.ReleaseRequest again cause due) q k = q
indicated_not_going i s p g = p

-- and it is not asked for
pub outward_unasked : (P : NetState → Type 0) → ((n : NetState) → P n → net_awake_state n ≡ n) → (i : ℕ) (s : Standing) → OutwardIn P i s → is_enquired s ≡ false
outward_unasked P w i (OnCall x a) p = sym (ap is_asked (w x.state p.0)) ∙ awake_unasked x.state
outward_unasked P w i s p = absurd p

live_unasked : (c : Day) (rest said : List Outgoing) (j : ℕ) (s : Standing) → AllKinds c → AtX c rest said j s → is_live s ≡ true → is_enquired s ≡ false
live_unasked c rest said j s kinds h live = decide (is_live (standing_at c j))
    (λ was. at (kinds j was))
    (λ idle. absurd (true≢false (sym live ∙ h.idle idle)))
  where
    at : Kinds c j → is_enquired s ≡ false
    at (Ringing r) = elim (h.ringing r) [ inl p ↦ outward_unasked PresentIn present_awake j s p.0 | inr p ↦ outward_unasked ActiveIn active_awake j s p.0 ]
    at (Clearing r) = elim (h.clearing r) [ inl p ↦ outward_unasked IndicatedIn indicated_awake j s p.0 | inr p ↦ absurd (true≢false (sym live ∙ p.0)) ]
    at (Settled u) = outward_unasked ActiveIn active_awake j s (h.settled u)

agrees_unasked : (s : Standing) (m : Heard) → is_enquired s ≡ false → contradicts s m ≡ false
agrees_unasked (OnCall x a) m h = at x.state h
  where
    at : (n : NetState) → is_asked n ≡ false → net_is_contradicted n x.origin m m.kind ≡ false
    at (net.Enquiring asked due) q = absurd (true≢false q)
    at net.Active q = refl
    at net.OutgoingCallProceeding q = refl
    at (net.CallPresent again due) q = refl
    at (net.IncomingCallProceeding due) q = refl
    at (net.CallReceived due) q = refl
    at (net.DisconnectIndication cause due) q = refl
    at (net.ReleaseRequest again cause due) q = refl
agrees_unasked s m h = refl

spares_x : (rows : List Row) (assigned : List (Option ℕ)) (c : Day) (t : ℕ) (o : Outgoing) (rest said : List Outgoing) (d : Day) → AllKinds c → FromFar c o → Hears rows assigned c t (o ∷ rest) said d → Spares (out_octets o) d
spares_x rows assigned c t o rest said d kinds m h j going =
    ap (tells test (entry_at d.entries j)) (said_again o m.sendable) ∙ decide (names (said_from o) (entry_at d.entries j))
    (λ named. ap (λ b. b && test (said_from o).heard) named ∙ or_from (clears_by ch (said_from o).heard (said_from o).heard.kind) (contradicts (standing_at d j) (said_from o).heard)
    (at m.says (live_ref c (o ∷ rest) said j (said_from o) (standing_at d j) kinds (h.calls j) (going_live (standing_at d j) going) named))
    (agrees_unasked (standing_at d j) (said_from o).heard (live_unasked c (o ∷ rest) said j (standing_at d j) kinds (h.calls j) (going_live (standing_at d j) going))))
    (λ other. and_off (names (said_from o) (entry_at d.entries j)) (test (said_from o).heard) other)
  where
    ch : ℕ
    ch = (entry_at d.entries j).channel

    test : Heard → Bool
    test x = clears_by (entry_at d.entries j).channel x x.kind || contradicts (standing_at d j) x

    same_index : (i : ℕ) → o.reference ≡ suc i → o.reference ≡ suc j → i ≡ j
    same_index i p q = (let r : suc i ≡ suc j = sym p ∙ q in omega (arith, r))

    at : SaysBack c o → o.reference ≡ suc j → clears_by (entry_at d.entries j).channel (said_from o).heard (said_from o).heard.kind ≡ false
    at (Connects i r ref kind channel) own =
        ap (clears_by (entry_at d.entries j).channel (said_from o).heard) kind
        ∙ ap (λ x. not (names_channel (channel_part x) (entry_at d.entries j).channel)) channel
        ∙ ap not (eq-eqb (channel_of c i) (entry_at d.entries j).channel (ap (channel_of c) (same_index i ref own) ∙ sym (h.channel j)))
    at (Releases i r ref kind) own = elim ((h.calls i).clearing r) [
      | inl p ↦ absurd (indicated_not_going i (standing_at d i) p.0 (subst (λ k. is_going (standing_at d k) ≡ true) (sym (same_index i ref own)) going))
      | inr p ↦ absurd (true≢false (sym (going_live (standing_at d i) (subst (λ k. is_going (standing_at d k) ≡ true) (sym (same_index i ref own)) going)) ∙ p.0))
    ]
    at (Reports i live ref kind state) own = ap (clears_by (entry_at d.entries j).channel (said_from o).heard) kind ∙ state

-- ---- all that it hears in a turn

pub record HeardAll (rows : List Row) (assigned : List (Option ℕ)) (c : Day) (t : ℕ) (os said : List Outgoing) (d : Day) : Type 0 where
  pub left : Hears rows assigned c t [] (said ++ exchange_says os d) (heard_in (map (λ o. out_octets o) os) d)
  pub says : AllByRecursion (FromExchange c) (exchange_says os d)
  pub spared : SparesAll (map (λ o. out_octets o) os) d

pub hears_all : (rows : List Row) (assigned : List (Option ℕ)) (c : Day) (t : ℕ) (os said : List Outgoing) (d : Day) → AllKinds c → AllByRecursion (FromFar c) os → Hears rows assigned c t os said d → HeardAll rows assigned c t os said d
hears_all rows assigned c t [] said d kinds all h = record { left = subst (λ xs. Hears rows assigned c t [] xs d) (sym (append-nil said)) h; says = tt; spared = tt }
hears_all rows assigned c t (o ∷ os) said d kinds all h =
    let a : Answered Day = receive_octets d (out_octets o) in
    let x = x_step rows assigned c t o os said d kinds all.0 h in
    let next : Hears rows assigned c t os (said ++ reply_list a.reply) a.day = record { hearing = hears_next rows assigned t d (out_octets o) h.hearing; channel = x.0; calls = x.1.0 } in
    let rest = hears_all rows assigned c t os (said ++ reply_list a.reply) a.day kinds all.1 next in
    record {
      left = subst (λ xs. Hears rows assigned c t [] xs (heard_in (map (λ y. out_octets y) os) a.day)) (append_assoc said (reply_list a.reply) (exchange_says os a.day)) rest.left;
      says = all_joined (FromExchange c) (reply_list a.reply) (exchange_says os a.day) x.1.1 rest.says;
      spared = (spares_x rows assigned c t o os said d kinds all.0 h, rest.spared);
    }
