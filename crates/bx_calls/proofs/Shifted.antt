-- A call whose moments are all told n seconds later.
use Rattle.std.proofs.Common.{◌≡◌, ℕ, ◌+◌, ◌-◌, ◌≤◌, ◌&&◌, ◌==◌, not, Bool, true, false, Option, Some, None, arith, refl, sym, ap, ap₂, ◌∙◌, nat_le, if◌then◌else◌}
use Rattle.std.proofs.lemmas.Bool.{leb-true, le-leb}
use Rattle.bx_q931.specs.Outgoing.{Outgoing}
use Rattle.bx_q931.specs.declared.kind.Kind.{Kind}
use Rattle.bx_q931.specs.declared.kind.Kind.TheVariants.{Alerting, CallProceeding, Progress, Setup, Connect, ConnectAcknowledge, Disconnect, Release, ReleaseComplete, Notify, StatusEnquiry, Information, Status, Other}
use Rattle.bx_events.specs.declared.rules.Rules.{Rules}
use Rattle.bx_events.specs.declared.rules.Rules.TheVariants.{Two, Three}
use Rattle.bx_calls.specs.declared.transition.Transition.{Transition}
use Rattle.bx_calls.specs.declared.net_state.NetOrigin.{NetOrigin}
use Rattle.bx_calls.specs.declared.net_state.NetOrigin.TheVariants.{Outward, Inward}
use Rattle.bx_calls.specs.declared.times.Times.{Times}
use Rattle.bx_calls.specs.declared.times.Times.TheVariants.{NotYet, Once, Twice}
use Rattle.bx_calls.specs.declared.net_state.Offer.{Offer}
use Rattle.bx_calls.specs.declared.net_state.Offer.TheVariants.{First, Second, Anew, PutOff, Unlinked, Asked}
use Rattle.bx_calls.specs.declared.net_state.NetState.{NetState}
use Rattle.bx_calls.specs.declared.net_state.NetState.TheVariants.{OutgoingCallProceeding, CallPresent, IncomingCallProceeding, CallReceived, Active, Enquiring, DisconnectIndication, ReleaseRequest}
use Rattle.bx_calls.specs.PlainCalls.{PlainNetCall}
use Rattle.bx_calls.specs.Hearing.{Heard, names_channel, reports_null}
use Rattle.bx_calls.specs.Saying.{network, with_kept_cause}
use Rattle.bx_calls.specs.NetTable.{net_says, net_says_cause, net_status, net_same, net_to, net_releases, net_disconnects, net_setup_again, net_offers, net_asks, net_on_channel, net_acknowledged, net_row, net_is_contradicted, net_is_unacknowledged, net_is_put_off, net_put_off, net_awake_state, net_message, net_is_clearing, net_offer_due, net_release_due, net_timer, net_second, net_rings_on, net_lost, net_later, net_unlinked, net_connects, net_is_unconnected, net_is_ringing, net_rung, is_alerted}
use Rattle.bx_calls.specs.Shifting.{state_earlier, earlier_by, state_later, told_later, step_later, IsDueFrom}

-- ---- moments

swap : (t n k : ℕ) → (t + n) + k ≡ (t + k) + n
swap t n k = omega arith

bool_case : (b : Bool) (P : Bool → Type 0) → P true → P false → P b
bool_case true P x y = x
bool_case false P x y = y

bool_is : (a b : Bool) → (a ≡ true → b ≡ true) → (b ≡ true → a ≡ true) → a ≡ b
bool_is true b f g = sym (f refl)
bool_is false true f g = g refl
bool_is false false f g = refl

pub le_later : (a b n : ℕ) → nat_le (a + n) (b + n) ≡ nat_le a b
le_later a b n = bool_is (nat_le (a + n) (b + n)) (nat_le a b)
    (λ h. (let le : a + n ≤ b + n = leb-true (a + n) (b + n) h in le-leb a b (omega (arith, le))))
    (λ h. (let le : a ≤ b = leb-true a b h in le-leb (a + n) (b + n) (omega (arith, le))))

-- ---- there and back

state_back : (n : ℕ) (s : NetState) → IsDueFrom n s → state_later n (state_earlier n s) ≡ s
state_back n OutgoingCallProceeding h = refl
state_back n (CallPresent offer due) h = (let le : n ≤ due = h due refl in ap (λ x. CallPresent offer x) (let q : (due - n) + n ≡ due = omega (arith, le) in q))
state_back n (IncomingCallProceeding due) h = (let le : n ≤ due = h due refl in ap (λ x. IncomingCallProceeding x) (let q : (due - n) + n ≡ due = omega (arith, le) in q))
state_back n (CallReceived due) h = (let le : n ≤ due = h due refl in ap (λ x. CallReceived x) (let q : (due - n) + n ≡ due = omega (arith, le) in q))
state_back n Active h = refl
state_back n (Enquiring asked due) h = (let le : n ≤ due = h due refl in ap (λ x. Enquiring asked x) (let q : (due - n) + n ≡ due = omega (arith, le) in q))
state_back n (DisconnectIndication cause due) h = (let le : n ≤ due = h due refl in ap (λ x. DisconnectIndication cause x) (let q : (due - n) + n ≡ due = omega (arith, le) in q))
state_back n (ReleaseRequest sent cause due) h = (let le : n ≤ due = h due refl in ap (λ x. ReleaseRequest sent cause x) (let q : (due - n) + n ≡ due = omega (arith, le) in q))

pub told_back : (n : ℕ) (c : PlainNetCall) → IsDueFrom n c.state → told_later n (earlier_by n c) ≡ c
told_back n c h = ap (λ s. record c { state = s }) (state_back n c.state h)

-- ---- what a row says

releases_later : (n t : ℕ) (c : PlainNetCall) (sent : Times) (cause : Option ℕ) → net_releases (told_later n c) sent cause (t + n) ≡ step_later n (net_releases c sent cause t)
releases_later n t c sent cause = ap (λ x. net_to c (Some (with_kept_cause network cause (net_says c Release))) (ReleaseRequest sent cause x)) (swap t n 4)

disconnects_later : (n t : ℕ) (c : PlainNetCall) (cause : ℕ) → net_disconnects (told_later n c) cause (t + n) ≡ step_later n (net_disconnects c cause t)
disconnects_later n t c cause = ap (λ x. net_to c (Some (net_says_cause c Disconnect cause)) (DisconnectIndication cause x)) (swap t n 30)

again_later : (n : ℕ) (c : PlainNetCall) (o : NetOrigin) → net_setup_again (told_later n c) o ≡ net_setup_again c o
again_later n c (Outward called) = refl
again_later n c Inward = refl

offers_later : (n t : ℕ) (c : PlainNetCall) (offer : Offer) → net_offers (told_later n c) offer (t + n) ≡ step_later n (net_offers c offer t)
offers_later n t c offer = ap₂ (λ r x. net_to c r (CallPresent offer x)) (again_later n c c.origin) (swap t n 4)

asks_later : (n t : ℕ) (c : PlainNetCall) (asked : Times) → net_asks (told_later n c) asked (t + n) ≡ step_later n (net_asks c asked t)
asks_later n t c asked = ap (λ x. net_to c (Some (net_says c StatusEnquiry)) (Enquiring asked x)) (swap t n 4)

-- ---- seconds

offer_due_later : (n t : ℕ) (c : PlainNetCall) (offer : Offer) → net_offer_due (told_later n c) (t + n) offer ≡ step_later n (net_offer_due c t offer)
offer_due_later n t c First = offers_later n t c Second
offer_due_later n t c Second = refl
offer_due_later n t c Anew = offers_later n t c Second
offer_due_later n t c PutOff = offers_later n t c First
offer_due_later n t c Unlinked = ap (λ x. net_to c (Some (net_says c StatusEnquiry)) (CallPresent Asked x)) (swap t n 4)
offer_due_later n t c Asked = offers_later n t c First

release_due_later : (n t : ℕ) (c : PlainNetCall) (sent : Times) (cause : Option ℕ) → net_release_due (told_later n c) (t + n) sent cause ≡ step_later n (net_release_due c t sent cause)
release_due_later n t c NotYet cause = releases_later n t c Once cause
release_due_later n t c Once cause = releases_later n t c Twice cause
release_due_later n t c Twice cause = refl

-- where both are asked the same, and do the same
by_due : (n due t : ℕ) (x y u v : Transition PlainNetCall) → x ≡ step_later n u → y ≡ step_later n v → (if nat_le (due + n) (t + n) then x else y) ≡ step_later n (if nat_le due t then u else v)
by_due n due t x y u v p q =
    ap (λ b. if b then x else y) (le_later due t n)
    ∙ bool_case (nat_le due t) (λ b. (if b then x else y) ≡ step_later n (if b then u else v)) p q

same_call : (n : ℕ) (c : PlainNetCall) (s : NetState) → c.state ≡ s → told_later n (record c { state = s }) ≡ told_later n c
same_call n c s is = ap (λ x. record c { state = state_later n x }) (sym is)

stays_later : (n : ℕ) (c : PlainNetCall) (reply : Option Outgoing) → net_same (told_later n c) reply ≡ step_later n (net_same c reply)
stays_later n c reply = refl

timer_later : (n t : ℕ) (c : PlainNetCall) (s : NetState) → net_timer (told_later n c) (t + n) (state_later n s) ≡ step_later n (net_timer c t s)
timer_later n t c OutgoingCallProceeding = refl
timer_later n t c (CallPresent offer due) = by_due n due t _ _ (net_offer_due c t offer) (net_same c None) (offer_due_later n t c offer) refl
timer_later n t c (IncomingCallProceeding due) = by_due n due t _ _ (net_disconnects c 102 t) (net_same c None) (disconnects_later n t c 102) refl
timer_later n t c (CallReceived due) = by_due n due t _ _ (net_disconnects c 102 t) (net_same c None) (disconnects_later n t c 102) refl
timer_later n t c Active = refl
timer_later n t c (Enquiring NotYet due) = by_due n due t _ _ (net_asks c Once t) (net_same c None) (asks_later n t c Once) refl
timer_later n t c (Enquiring Once due) = by_due n due t _ _ (net_asks c Twice t) (net_same c None) (asks_later n t c Twice) refl
timer_later n t c (Enquiring Twice due) = by_due n due t _ _ (net_disconnects c 41 t) (net_same c None) (disconnects_later n t c 41) refl
timer_later n t c (DisconnectIndication cause due) = by_due n due t _ _ (net_releases c Once (Some cause) t) (net_same c None) (releases_later n t c Once (Some cause)) refl
timer_later n t c (ReleaseRequest sent cause due) = by_due n due t _ _ (net_release_due c t sent cause) (net_same c None) (release_due_later n t c sent cause) refl

clearing_later : (n : ℕ) (s : NetState) → net_is_clearing (state_later n s) ≡ net_is_clearing s
clearing_later n (DisconnectIndication cause due) = refl
clearing_later n (ReleaseRequest sent cause due) = refl
clearing_later n OutgoingCallProceeding = refl
clearing_later n (CallPresent offer due) = refl
clearing_later n (IncomingCallProceeding due) = refl
clearing_later n (CallReceived due) = refl
clearing_later n Active = refl
clearing_later n (Enquiring asked due) = refl

by_end : (n t end : ℕ) (s : NetState) (x y u v : Transition PlainNetCall) → x ≡ step_later n u → y ≡ step_later n v → (if not (net_is_clearing (state_later n s)) && nat_le (end + n) (t + n) then x else y) ≡ step_later n (if not (net_is_clearing s) && nat_le end t then u else v)
by_end n t end s x y u v p q =
    ap₂ (λ a b. if not a && b then x else y) (clearing_later n s) (le_later end t n)
    ∙ bool_case (not (net_is_clearing s) && nat_le end t) (λ b. (if b then x else y) ≡ step_later n (if b then u else v)) p q

pub second_later : (n t end : ℕ) (c : PlainNetCall) → net_second (told_later n c) (t + n) (end + n) ≡ step_later n (net_second c t end)
second_later n t end c = by_end n t end c.state _ _ (net_disconnects c 16 t) (net_timer c t c.state) (disconnects_later n t c 16) (timer_later n t c c.state)

-- ---- without a link

rings_on_later : (u : Rules) (n t : ℕ) (later later' : NetState) → later' ≡ state_later n later → net_rings_on u (t + n) later' ≡ state_later n (net_rings_on u t later)
rings_on_later Two n t later later' is = is
rings_on_later Three n t later later' is = ap (λ x. CallPresent Unlinked x) (swap t n 1)

lost_later : (u : Rules) (n k t : ℕ) (s : NetState) → net_lost u k (t + n) (state_later n s) ≡ state_later n (net_lost u k t s)
lost_later u n k t OutgoingCallProceeding = refl
lost_later u n k t (CallPresent offer due) = ap (λ x. CallPresent Unlinked x) (swap t n 1)
lost_later u n k t (IncomingCallProceeding due) = rings_on_later u n t _ _ (ap (λ x. IncomingCallProceeding x) (swap due n k))
lost_later u n k t (CallReceived due) = rings_on_later u n t _ _ (ap (λ x. CallReceived x) (swap due n k))
lost_later u n k t Active = ap (λ x. Enquiring NotYet x) (swap t n 1)
lost_later u n k t (Enquiring asked due) = ap (λ x. Enquiring NotYet x) (swap t n 1)
lost_later u n k t (DisconnectIndication cause due) = ap (λ x. DisconnectIndication cause x) (swap t n 1)
lost_later u n k t (ReleaseRequest sent cause due) = ap (λ x. ReleaseRequest NotYet cause x) (swap t n 1)

outlasts_later : (u : Rules) (n k t : ℕ) (s : NetState) → net_later u k (t + n) (state_later n s) ≡ state_later n (net_later u k t s)
outlasts_later u n k t s = bool_case (k == 0) (λ b. (if b then state_later n s else net_lost u k (t + n) (state_later n s)) ≡ state_later n (if b then s else net_lost u k t s)) refl (lost_later u n k t s)

pub unlinked_later : (u : Rules) (n k t end : ℕ) (c : PlainNetCall) → net_unlinked u k (told_later n c) (t + n) (end + n) ≡ step_later n (net_unlinked u k c t end)
unlinked_later u n k t end c = by_end n t end c.state _ _ (net_to c None (DisconnectIndication 16 (t + 1))) (net_to c None (net_later u k t c.state)) (ap (λ x. net_to c None (DisconnectIndication 16 x)) (swap t n 1)) (ap (λ s. net_to c None s) (outlasts_later u n k t c.state))

-- ---- messages

on_channel_later : (n t : ℕ) (c : PlainNetCall) (m : Heard) (x u : Transition PlainNetCall) → x ≡ step_later n u → net_on_channel (told_later n c) m (t + n) x ≡ step_later n (net_on_channel c m t u)
on_channel_later n t c m x u p = bool_case (names_channel m.channel c.channel) (λ b. (if b then x else net_releases (told_later n c) Once (Some 6) (t + n)) ≡ step_later n (if b then u else net_releases c Once (Some 6) t)) p (releases_later n t c Once (Some 6))

acknowledged_later : (n : ℕ) (c : PlainNetCall) (o : NetOrigin) → (later : PlainNetCall) → later ≡ told_later n c → net_status later 101 ≡ net_status c 101 → net_acknowledged later o ≡ step_later n (net_acknowledged c o)
acknowledged_later n c Inward later is says = ap (λ x. net_same x None) is
acknowledged_later n c (Outward called) later is says = ap₂ (λ x r. net_same x (Some r)) is says

state_said : (n : ℕ) (c : PlainNetCall) (s : NetState) (cause : ℕ) → net_status (record c { state = state_later n s }) cause ≡ net_status (record c { state = s }) cause
state_said n c OutgoingCallProceeding cause = refl
state_said n c (CallPresent offer due) cause = refl
state_said n c (IncomingCallProceeding due) cause = refl
state_said n c (CallReceived due) cause = refl
state_said n c Active cause = refl
state_said n c (Enquiring asked due) cause = refl
state_said n c (DisconnectIndication cause' due) cause = refl
state_said n c (ReleaseRequest sent cause' due) cause = refl

says_status : (n : ℕ) (c : PlainNetCall) (s : NetState) (cause : ℕ) → net_same (record c { state = state_later n s }) (Some (net_status (record c { state = state_later n s }) cause)) ≡ step_later n (net_same (record c { state = s }) (Some (net_status (record c { state = s }) cause)))
says_status n c s cause = ap (λ r. net_same (record c { state = state_later n s }) (Some r)) (state_said n c s cause)

null_later : (n : ℕ) (b : Bool) (x u : Transition PlainNetCall) (y v : Transition PlainNetCall) → x ≡ step_later n u → y ≡ step_later n v → (if b then x else y) ≡ step_later n (if b then u else v)
null_later n true x u y v p q = p
null_later n false x u y v p q = q

-- a call in this state
abbrev at : PlainNetCall → NetState → PlainNetCall
at c s = record c { state = s }

row_later : (n t : ℕ) (c : PlainNetCall) (m : Heard) (s : NetState) (k : Kind) → net_row (at c (state_later n s)) m (t + n) (state_later n s) k ≡ step_later n (net_row (at c s) m t s k)
row_later n t c m s ReleaseComplete = refl
row_later n t c m s StatusEnquiry = says_status n c s 30
row_later n t c m s Status = null_later n (reports_null m.state) _ _ _ _ refl refl
row_later n t c m s Setup = refl
row_later n t c m (ReleaseRequest sent cause due) Release = refl
row_later n t c m (DisconnectIndication cause due) Disconnect = releases_later n t (at c (DisconnectIndication cause due)) Once None
row_later n t c m (DisconnectIndication cause due) Release = refl
row_later n t c m (OutgoingCallProceeding) Release = refl
row_later n t c m (CallPresent offer due) Release = refl
row_later n t c m (IncomingCallProceeding due) Release = refl
row_later n t c m (CallReceived due) Release = refl
row_later n t c m Active Release = refl
row_later n t c m (Enquiring asked due) Release = refl
row_later n t c m (ReleaseRequest sent cause due) k = refl
row_later n t c m OutgoingCallProceeding Disconnect = releases_later n t (at c OutgoingCallProceeding) Once None
row_later n t c m (CallPresent offer due) Disconnect = releases_later n t (at c (CallPresent offer due)) Once None
row_later n t c m (IncomingCallProceeding due) Disconnect = releases_later n t (at c (IncomingCallProceeding due)) Once None
row_later n t c m (CallReceived due) Disconnect = releases_later n t (at c (CallReceived due)) Once None
row_later n t c m Active Disconnect = releases_later n t (at c Active) Once None
row_later n t c m (Enquiring asked due) Disconnect = releases_later n t (at c (Enquiring asked due)) Once None
row_later n t c m (DisconnectIndication cause due) k = refl
row_later n t c m (CallPresent offer due) CallProceeding = on_channel_later n t (at c (CallPresent offer due)) m _ _ (ap (λ x. net_to c None (IncomingCallProceeding x)) (swap t n 10))
row_later n t c m (CallPresent offer due) Alerting = on_channel_later n t (at c (CallPresent offer due)) m _ _ (ap (λ x. net_to c None (CallReceived x)) (swap t n 180))
row_later n t c m (CallPresent offer due) Connect = on_channel_later n t (at c (CallPresent offer due)) m _ _ refl
row_later n t c m (IncomingCallProceeding due) Alerting = ap (λ x. net_to c None (CallReceived x)) (swap t n 180)
row_later n t c m (IncomingCallProceeding due) Connect = refl
row_later n t c m (CallReceived due) Connect = refl
row_later n t c m Active ConnectAcknowledge = acknowledged_later n (at c Active) c.origin (at c Active) refl refl
row_later n t c m s Progress = refl
row_later n t c m s Notify = refl
row_later n t c m s Information = refl
row_later n t c m s (Other octet) = says_status n c s 97
row_later n t c m s k = says_status n c s 101

awake_later : (n : ℕ) (s : NetState) → net_awake_state (state_later n s) ≡ state_later n (net_awake_state s)
awake_later n OutgoingCallProceeding = refl
awake_later n (CallPresent offer due) = refl
awake_later n (IncomingCallProceeding due) = refl
awake_later n (CallReceived due) = refl
awake_later n Active = refl
awake_later n (Enquiring asked due) = refl
awake_later n (DisconnectIndication cause due) = refl
awake_later n (ReleaseRequest sent cause due) = refl

contradicted_later : (n : ℕ) (s : NetState) (o : NetOrigin) (m : Heard) (k : Kind) → net_is_contradicted (state_later n s) o m k ≡ net_is_contradicted s o m k
contradicted_later n (Enquiring asked due) o m k = refl
contradicted_later n OutgoingCallProceeding o m k = refl
contradicted_later n (CallPresent offer due) o m k = refl
contradicted_later n (IncomingCallProceeding due) o m k = refl
contradicted_later n (CallReceived due) o m k = refl
contradicted_later n Active o m k = refl
contradicted_later n (DisconnectIndication cause due) o m k = refl
contradicted_later n (ReleaseRequest sent cause due) o m k = refl

asked_later : (n : ℕ) (offer : Offer) (due : ℕ) (o : NetOrigin) (m : Heard) (k : Kind) → net_is_unacknowledged (CallPresent offer (due + n)) o m k ≡ net_is_unacknowledged (CallPresent offer due) o m k
asked_later n Asked due o m Status = refl
asked_later n Asked due o m k = refl
asked_later n First due o m k = refl
asked_later n Second due o m k = refl
asked_later n Anew due o m k = refl
asked_later n PutOff due o m k = refl
asked_later n Unlinked due o m k = refl

unacknowledged_later : (n : ℕ) (s : NetState) (o : NetOrigin) (m : Heard) (k : Kind) → net_is_unacknowledged (state_later n s) o m k ≡ net_is_unacknowledged s o m k
unacknowledged_later n (Enquiring asked due) o m k = refl
unacknowledged_later n OutgoingCallProceeding o m k = refl
unacknowledged_later n (CallPresent offer due) o m k = asked_later n offer due o m k
unacknowledged_later n (IncomingCallProceeding due) o m k = refl
unacknowledged_later n (CallReceived due) o m k = refl
unacknowledged_later n Active o m k = refl
unacknowledged_later n (DisconnectIndication cause due) o m k = refl
unacknowledged_later n (ReleaseRequest sent cause due) o m k = refl

refused_later : (n : ℕ) (offer : Offer) (due : ℕ) (m : Heard) (k : Kind) → net_is_put_off (CallPresent offer (due + n)) m k ≡ net_is_put_off (CallPresent offer due) m k
refused_later n offer due m ReleaseComplete = refl
refused_later n offer due m Status = refl
refused_later n offer due m k = refl

put_off_later : (n : ℕ) (s : NetState) (m : Heard) (k : Kind) → net_is_put_off (state_later n s) m k ≡ net_is_put_off s m k
put_off_later n (Enquiring asked due) m k = refl
put_off_later n OutgoingCallProceeding m k = refl
put_off_later n (CallPresent offer due) m k = refused_later n offer due m k
put_off_later n (IncomingCallProceeding due) m k = refl
put_off_later n (CallReceived due) m k = refl
put_off_later n Active m k = refl
put_off_later n (DisconnectIndication cause due) m k = refl
put_off_later n (ReleaseRequest sent cause due) m k = refl

offers_off : (n t : ℕ) (offer : Offer) (due : ℕ) → net_put_off (t + n) (CallPresent offer (due + n)) ≡ state_later n (net_put_off t (CallPresent offer due))
offers_off n t PutOff due = refl
offers_off n t First due = ap (λ x. CallPresent PutOff x) (swap t n 1)
offers_off n t Second due = ap (λ x. CallPresent PutOff x) (swap t n 1)
offers_off n t Anew due = ap (λ x. CallPresent PutOff x) (swap t n 1)
offers_off n t Unlinked due = ap (λ x. CallPresent PutOff x) (swap t n 1)
offers_off n t Asked due = ap (λ x. CallPresent PutOff x) (swap t n 1)

puts_off : (n t : ℕ) (s : NetState) → net_put_off (t + n) (state_later n s) ≡ state_later n (net_put_off t s)
puts_off n t (CallPresent offer due) = offers_off n t offer due
puts_off n t OutgoingCallProceeding = ap (λ x. CallPresent PutOff x) (swap t n 1)
puts_off n t (IncomingCallProceeding due) = ap (λ x. CallPresent PutOff x) (swap t n 1)
puts_off n t (CallReceived due) = ap (λ x. CallPresent PutOff x) (swap t n 1)
puts_off n t Active = ap (λ x. CallPresent PutOff x) (swap t n 1)
puts_off n t (Enquiring asked due) = ap (λ x. CallPresent PutOff x) (swap t n 1)
puts_off n t (DisconnectIndication cause due) = ap (λ x. CallPresent PutOff x) (swap t n 1)
puts_off n t (ReleaseRequest sent cause due) = ap (λ x. CallPresent PutOff x) (swap t n 1)

unconnected_later : (n : ℕ) (s : NetState) (o : NetOrigin) (m : Heard) (k : Kind) → net_is_unconnected (state_later n s) o m k ≡ net_is_unconnected s o m k
unconnected_later n (Enquiring asked due) o m k = refl
unconnected_later n OutgoingCallProceeding o m k = refl
unconnected_later n (CallPresent offer due) o m k = refl
unconnected_later n (IncomingCallProceeding due) o m k = refl
unconnected_later n (CallReceived due) o m k = refl
unconnected_later n Active o m k = refl
unconnected_later n (DisconnectIndication cause due) o m k = refl
unconnected_later n (ReleaseRequest sent cause due) o m k = refl

offer_rings : (n : ℕ) (offer : Offer) (due : ℕ) (m : Heard) (k : Kind) → net_is_ringing (CallPresent offer (due + n)) m k ≡ net_is_ringing (CallPresent offer due) m k
offer_rings n Asked due m Status = refl
offer_rings n Asked due m k = refl
offer_rings n First due m k = refl
offer_rings n Second due m k = refl
offer_rings n Anew due m k = refl
offer_rings n PutOff due m k = refl
offer_rings n Unlinked due m k = refl

ringing_later : (n : ℕ) (s : NetState) (m : Heard) (k : Kind) → net_is_ringing (state_later n s) m k ≡ net_is_ringing s m k
ringing_later n (Enquiring asked due) m k = refl
ringing_later n OutgoingCallProceeding m k = refl
ringing_later n (CallPresent offer due) m k = offer_rings n offer due m k
ringing_later n (IncomingCallProceeding due) m k = refl
ringing_later n (CallReceived due) m k = refl
ringing_later n Active m k = refl
ringing_later n (DisconnectIndication cause due) m k = refl
ringing_later n (ReleaseRequest sent cause due) m k = refl

rung_later : (n t : ℕ) (reported : Option ℕ) → net_rung (t + n) reported ≡ state_later n (net_rung t reported)
rung_later n t reported = bool_case (is_alerted reported) (λ b. (if b then CallReceived (t + n + 180) else IncomingCallProceeding (t + n + 10)) ≡ state_later n (if b then CallReceived (t + 180) else IncomingCallProceeding (t + 10))) (ap (λ x. CallReceived x) (swap t n 180)) (ap (λ x. IncomingCallProceeding x) (swap t n 10))

woken : (n t : ℕ) (c : PlainNetCall) (m : Heard) (s : NetState) (k : Kind) → net_row (at c (net_awake_state (state_later n s))) m (t + n) (net_awake_state (state_later n s)) k ≡ step_later n (net_row (at c (net_awake_state s)) m t (net_awake_state s) k)
woken n t c m s k = ap (λ x. net_row (at c x) m (t + n) x k) (awake_later n s) ∙ row_later n t c m (net_awake_state s) k

two : (n : ℕ) (a a' : Bool) (x w x' w' : Transition PlainNetCall) → a ≡ a' → x ≡ step_later n x' → w ≡ step_later n w' → (if a then x else w) ≡ step_later n (if a' then x' else w')
two n a a' x w x' w' pa px pw = ap (λ v. if v then x else w) pa ∙ null_later n a' _ x' _ w' px pw

pub message_later : (n t : ℕ) (c : PlainNetCall) (m : Heard) → net_message (told_later n c) m (t + n) ≡ step_later n (net_message c m t)
message_later n t c m =
    two n _ (net_is_contradicted c.state c.origin m m.kind) _ _ (net_releases c Once (Some 101) t) _ (contradicted_later n c.state c.origin m m.kind) (releases_later n t c Once (Some 101))
    (two n _ (net_is_unacknowledged c.state c.origin m m.kind) _ _ (net_to c (Some (net_says c ConnectAcknowledge)) Active) _ (unacknowledged_later n c.state c.origin m m.kind) refl
    (two n _ (net_is_put_off c.state m m.kind) _ _ (net_to c None (net_put_off t c.state)) _ (put_off_later n c.state m m.kind) (ap (λ s. net_to c None s) (puts_off n t c.state))
    (two n _ (net_is_unconnected c.state c.origin m m.kind) _ _ (net_connects c) _ (unconnected_later n c.state c.origin m m.kind) refl
    (two n _ (net_is_ringing c.state m m.kind) _ _ (net_to c None (net_rung t m.state)) _ (ringing_later n c.state m m.kind) (ap (λ s. net_to c None s) (rung_later n t m.state))
    (woken n t c m c.state m.kind)))))

-- ---- a call that is being cleared

pub end_unasked : (u : Rules) (k t end other : ℕ) (c : PlainNetCall) → net_is_clearing c.state ≡ true → (net_second c t end ≡ net_second c t other) × (net_unlinked u k c t end ≡ net_unlinked u k c t other)
end_unasked u k t end other c clears = (
  ap (λ b. if not b && nat_le end t then net_disconnects c 16 t else net_timer c t c.state) clears ∙ sym (ap (λ b. if not b && nat_le other t then net_disconnects c 16 t else net_timer c t c.state) clears),
  ap (λ b. if not b && nat_le end t then net_to c None (DisconnectIndication 16 (t + 1)) else net_to c None (net_later u k t c.state)) clears ∙ sym (ap (λ b. if not b && nat_le other t then net_to c None (DisconnectIndication 16 (t + 1)) else net_to c None (net_later u k t c.state)) clears),
)
