-- Each message of the call tables is within the limits of a message.
use Rattle.std.proofs.Common.{ℕ, ◌+◌, ◌%◌, ◌==◌, ◌&&◌, ◌<◌, max, not, Bool, true, false, List, Option, Some, None, arith, nat_le, if◌then◌else◌}
use Rattle.bx_channels.specs.ChannelNumbers.{IsChannel}
use Rattle.bx_channels.specs.Numbers.{IsNumber}
use Rattle.bx_q931.specs.Kinds.{IsNamed}
use Rattle.bx_q931.specs.declared.kind.Kind.{Kind}
use Rattle.bx_q931.specs.declared.kind.Kind.TheVariants.{Alerting, CallProceeding, Progress, Setup, Connect, ConnectAcknowledge, Disconnect, Release, ReleaseComplete, Notify, StatusEnquiry, Information, Status, Other}
use Rattle.bx_q931.specs.Outgoing.{Outgoing, IsCallReference, plain}
use Rattle.bx_calls.specs.declared.call_state.CallState.{CallState}
use Rattle.bx_calls.specs.declared.call_state.CallState.TheVariants as call
use Rattle.bx_calls.specs.declared.transition.Transition.{Transition}
use Rattle.bx_calls.specs.PlainCalls.{PlainNetCall, PlainUserCall}
use Rattle.bx_calls.specs.declared.net_state.NetOrigin.{NetOrigin}
use Rattle.bx_calls.specs.declared.net_state.NetOrigin.TheVariants.{Outward, Inward}
use Rattle.bx_calls.specs.declared.net_state.Offer.{Offer}
use Rattle.bx_calls.specs.declared.net_state.Offer.TheVariants.{Second, Unlinked}
use Rattle.bx_calls.specs.declared.times.Times.TheVariants.{NotYet, Once, Twice}
use Rattle.bx_calls.specs.declared.net_state.NetState.{NetState}
use Rattle.bx_calls.specs.declared.net_state.NetState.TheVariants as net
use Rattle.bx_calls.specs.declared.user_state.Policy.TheVariants.{Answer, Alert, Proceed, Clear}
use Rattle.bx_calls.specs.declared.user_state.UserOrigin.{UserOrigin}
use Rattle.bx_calls.specs.declared.user_state.UserOrigin.TheVariants.{Offered, Calling}
use Rattle.bx_calls.specs.declared.user_state.UserState.{UserState}
use Rattle.bx_calls.specs.declared.user_state.UserState.TheVariants as user
use Rattle.bx_calls.specs.Hearing.{Heard, names_channel, reports_null}
use Rattle.bx_calls.specs.Saying.{with_cause, with_kept_cause, with_channel, status_of, setup_of}
use Rattle.bx_calls.specs.States.{state_value, net_state, user_state}
use Rattle.bx_calls.specs.NetTable.{net_offer_due, net_awake_state, net_heard, net_row, net_second, net_timer, net_is_clearing, net_setup_again}
use Rattle.bx_calls.specs.UserTable.{user_row, user_second, user_takes, user_answers, user_clears, user_setup_again}
use Rattle.bx_calls.specs.UnknownTable.{unknown_row, unknown_status, location_of, refusal_of}
use Rattle.bx_calls.specs.declared.unknown_reference.Side.{Side}
use Rattle.bx_calls.specs.declared.unknown_reference.Side.TheVariants.{Network, User}
use Rattle.bx_day.proofs.Hear.{heard_by}
use Rattle.bx_day.proofs.Said.{OfSaid}
use Rattle.bx_day.proofs.Second.{call_of}
use Rattle.bx_two_ends.proofs.Delivery.{Sendable}
use Rattle.bx_two_ends.proofs.UserRows.{user_call_of}

-- ---- messages by their parts

low_bits : (n : ℕ) → n % 128 < 128
low_bits n = omega arith

six_bits : (n : ℕ) → n % 64 < 64
six_bits n = omega arith

plain_ok : (r : ℕ) (f : Bool) (k : Kind) → IsCallReference r → IsNamed k → Sendable (plain r f k)
plain_ok r f k h n = record { out = record { reference = h; kind = n; cause = tt; state = tt }; channel = tt; called = tt }

cause_ok : (r : ℕ) (f : Bool) (k : Kind) (location cause : ℕ) → IsCallReference r → IsNamed k → location < 16 → Sendable (with_cause location cause (plain r f k))
cause_ok r f k location cause h n l = record { out = record { reference = h; kind = n; cause = (l, low_bits cause); state = tt }; channel = tt; called = tt }

kept_ok : (r : ℕ) (f : Bool) (k : Kind) (location : ℕ) (cause : Option ℕ) → IsCallReference r → IsNamed k → location < 16 → Sendable (with_kept_cause location cause (plain r f k))
kept_ok r f k location None h n l = plain_ok r f k h n
kept_ok r f k location (Some cause) h n l = cause_ok r f k location cause h n l

status_ok : (r : ℕ) (f : Bool) (location cause : ℕ) (s : CallState) → IsCallReference r → location < 16 → Sendable (status_of r f location cause s)
status_ok r f location cause s h l = record { out = record { reference = h; kind = tt; cause = (l, low_bits cause); state = six_bits (state_value s) }; channel = tt; called = tt }

pub channel_ok : (r ch : ℕ) (f : Bool) (k : Kind) → IsCallReference r → IsNamed k → IsChannel ch → Sendable (with_channel ch (plain r f k))
channel_ok r ch f k h n c = record { out = record { reference = h; kind = n; cause = tt; state = tt }; channel = c; called = tt }

pub setup_ok : (r ch : ℕ) (number : List ℕ) → IsCallReference r → IsChannel ch → IsNumber number → Sendable (setup_of r ch number)
setup_ok r ch number h c n = record { out = record { reference = h; kind = tt; cause = tt; state = tt }; channel = c; called = n }

-- ---- the exchange's table

either : {X : Type 0} (b : Bool) (x y : X) (P : X → Type 0) → P x → P y → P (if b then x else y)
either true x y P h k = h
either false x y P h k = k

abbrev pub NetOk : Transition PlainNetCall → Type 0
NetOk step = OfSaid Sendable step.reply

two : 2 < 16
two = omega arith

none : 0 < 16
none = omega arith

abbrev pub NumberOf : NetOrigin → Type 0
NumberOf (Outward called) = IsNumber called
NumberOf Inward = Unit {0}

pub row_ok : (r ch : ℕ) (o : NetOrigin) (t : ℕ) (m : Heard) (s : NetState) (k : Kind) → IsCallReference r → OfSaid Sendable (net_row (call_of r ch o s) m t s k).reply
row_ok r ch o t m s ReleaseComplete h = tt
row_ok r ch o t m s StatusEnquiry h = status_ok r _ 2 30 (net_state s) h two
row_ok r ch o t m s Status h = either (reports_null m.state) _ _ NetOk tt tt
row_ok r ch o t m s Setup h = tt
row_ok r ch o t m (net.ReleaseRequest again cause due) Release h = tt
row_ok r ch o t m s Release h = plain_ok r _ ReleaseComplete h tt
row_ok r ch o t m (net.ReleaseRequest again cause due) k h = tt
row_ok r ch o t m s Disconnect h = plain_ok r _ Release h tt
row_ok r ch o t m (net.DisconnectIndication cause due) k h = tt
row_ok r ch o t m (net.CallPresent again due) CallProceeding h = either (names_channel m.channel ch) _ _ NetOk tt (cause_ok r _ Release 2 6 h tt two)
row_ok r ch o t m (net.CallPresent again due) Alerting h = either (names_channel m.channel ch) _ _ NetOk tt (cause_ok r _ Release 2 6 h tt two)
row_ok r ch o t m (net.CallPresent again due) Connect h = either (names_channel m.channel ch) _ _ NetOk (plain_ok r _ ConnectAcknowledge h tt) (cause_ok r _ Release 2 6 h tt two)
row_ok r ch o t m (net.IncomingCallProceeding due) Alerting h = tt
row_ok r ch o t m (net.IncomingCallProceeding due) Connect h = plain_ok r _ ConnectAcknowledge h tt
row_ok r ch o t m (net.CallReceived due) Connect h = plain_ok r _ ConnectAcknowledge h tt
row_ok r ch (Outward called) t m net.Active ConnectAcknowledge h = status_ok r _ 2 101 (net_state net.Active) h two
row_ok r ch Inward t m net.Active ConnectAcknowledge h = tt
row_ok r ch o t m s Progress h = tt
row_ok r ch o t m s Notify h = tt
row_ok r ch o t m s Information h = tt
row_ok r ch o t m s (Other octet) h = status_ok r _ 2 97 (net_state s) h two
row_ok r ch o t m s k h = status_ok r _ 2 101 (net_state s) h two

pub heard_ok : (r ch : ℕ) (o : NetOrigin) (t : ℕ) (m : Heard) (s : NetState) (k : Kind) → IsCallReference r → IsChannel ch → OfSaid Sendable (net_heard (call_of r ch o s) m t s k).reply
heard_ok r ch o t m s k h c = heard_by NetOk (call_of r ch o s) m t s k
    (record { contradicted = λ asked due is q. cause_ok r _ Release 2 101 h tt two; unacknowledged = λ asked due is q. plain_ok r _ ConnectAcknowledge h tt; connected = λ due is q. plain_ok r _ ConnectAcknowledge h tt; put_off = λ offer due is q. tt; unconnected = λ asked due is q. channel_ok r ch _ Connect h tt c; ringing = λ due is q. tt })
    (row_ok r ch o t m (net_awake_state s) k h)

again_ok : (r ch : ℕ) (o : NetOrigin) (s : NetState) → IsCallReference r → IsChannel ch → NumberOf o → OfSaid Sendable (net_setup_again (call_of r ch o s) o)
again_ok r ch (Outward called) s h c n = setup_ok r ch called h c n
again_ok r ch Inward s h c n = tt

-- N6, whose timer is due
offer_ok : (r ch : ℕ) (o : NetOrigin) (t : ℕ) (offer : Offer) (due : ℕ) → IsCallReference r → IsChannel ch → NumberOf o → NetOk (net_offer_due (call_of r ch o (net.CallPresent offer due)) t offer)
offer_ok r ch o t Second due h c n = cause_ok r _ ReleaseComplete 2 102 h tt two
offer_ok r ch o t Unlinked due h c n = plain_ok r _ StatusEnquiry h tt
offer_ok r ch o t offer due h c n = again_ok r ch o (net.CallPresent offer due) h c n

timer_ok : (r ch : ℕ) (o : NetOrigin) (t : ℕ) (s : NetState) → IsCallReference r → IsChannel ch → NumberOf o → NetOk (net_timer (call_of r ch o s) t s)
timer_ok r ch o t net.OutgoingCallProceeding h c n = channel_ok r ch _ Connect h tt c
timer_ok r ch o t (net.CallPresent offer due) h c n = either (nat_le due t) _ _ NetOk (offer_ok r ch o t offer due h c n) tt
timer_ok r ch o t (net.IncomingCallProceeding due) h c n = either (nat_le due t) _ _ NetOk (cause_ok r _ Disconnect 2 102 h tt two) tt
timer_ok r ch o t (net.CallReceived due) h c n = either (nat_le due t) _ _ NetOk (cause_ok r _ Disconnect 2 102 h tt two) tt
timer_ok r ch o t net.Active h c n = tt
timer_ok r ch o t (net.Enquiring NotYet due) h c n = either (nat_le due t) _ _ NetOk (plain_ok r _ StatusEnquiry h tt) tt
timer_ok r ch o t (net.Enquiring Once due) h c n = either (nat_le due t) _ _ NetOk (plain_ok r _ StatusEnquiry h tt) tt
timer_ok r ch o t (net.Enquiring Twice due) h c n = either (nat_le due t) _ _ NetOk (cause_ok r _ Disconnect 2 41 h tt two) tt
timer_ok r ch o t (net.DisconnectIndication cause due) h c n = either (nat_le due t) _ _ NetOk (cause_ok r _ Release 2 cause h tt two) tt
timer_ok r ch o t (net.ReleaseRequest Twice cause due) h c n = either (nat_le due t) _ _ NetOk tt tt
timer_ok r ch o t (net.ReleaseRequest NotYet cause due) h c n = either (nat_le due t) _ _ NetOk (kept_ok r _ Release 2 cause h tt two) tt
timer_ok r ch o t (net.ReleaseRequest Once cause due) h c n = either (nat_le due t) _ _ NetOk (kept_ok r _ Release 2 cause h tt two) tt

pub second_ok : (r ch : ℕ) (o : NetOrigin) (t end : ℕ) (s : NetState) → IsCallReference r → IsChannel ch → NumberOf o → OfSaid Sendable (net_second (call_of r ch o s) t end).reply
second_ok r ch o t end s h c n = either (not (net_is_clearing s) && nat_le end t) _ _ NetOk (cause_ok r _ Disconnect 2 16 h tt two) (timer_ok r ch o t s h c n)

-- ---- unknown references

location_ok : (side : Side) → location_of side < 16
location_ok Network = two
location_ok User = none

unknown_status_ok : (side : Side) (r : ℕ) (f : Bool) (state : Option ℕ) → IsCallReference r → OfSaid Sendable (unknown_status side r f state)
unknown_status_ok side r f None h = tt
unknown_status_ok side r f (Some state) h = either (state == 0) _ _ (λ (o : Option Outgoing). OfSaid Sendable o) tt (cause_ok r f ReleaseComplete _ 101 h tt (location_ok side))

pub unknown_ok : (side : Side) (r : ℕ) (f : Bool) (m : Heard) (k : Kind) → IsCallReference r → OfSaid Sendable (unknown_row side r f m k)
unknown_ok side r f m ReleaseComplete h = tt
unknown_ok side r f m Status h = unknown_status_ok side r f m.state h
unknown_ok side r f m Setup h = tt
unknown_ok side r f m StatusEnquiry h = status_ok r f _ 30 call.Null h (location_ok side)
unknown_ok side r f m k h = cause_ok r f ReleaseComplete _ 81 h tt (location_ok side)

pub refusal_ok : (side : Side) (r cause : ℕ) → IsCallReference r → Sendable (refusal_of side r true cause)
refusal_ok side r cause h = cause_ok r true ReleaseComplete _ cause h tt (location_ok side)

-- ---- the far end's table

abbrev UserOk : Transition PlainUserCall → Type 0
UserOk step = OfSaid Sendable step.reply

abbrev pub CalledBy : UserOrigin → Type 0
CalledBy (Offered policy at) = Unit {0}
CalledBy (Calling called) = IsNumber called

pub user_row_ok : (r ch : ℕ) (o : UserOrigin) (t : ℕ) (m : Heard) (s : UserState) (k : Kind) → IsCallReference r → OfSaid Sendable (user_row (user_call_of r ch o s) m t s k).reply
user_row_ok r ch o t m s ReleaseComplete h = tt
user_row_ok r ch o t m s StatusEnquiry h = status_ok r _ 0 30 (user_state s) h none
user_row_ok r ch o t m s Status h = either (reports_null m.state) _ _ UserOk tt tt
user_row_ok r ch o t m s Setup h = tt
user_row_ok r ch o t m (user.ReleaseRequest again cause due) Release h = tt
user_row_ok r ch o t m s Release h = plain_ok r _ ReleaseComplete h tt
user_row_ok r ch o t m (user.ReleaseRequest again cause due) k h = tt
user_row_ok r ch o t m s Disconnect h = plain_ok r _ Release h tt
user_row_ok r ch o t m (user.DisconnectRequest cause due) k h = tt
user_row_ok r ch o t m (user.ConnectRequest due) ConnectAcknowledge h = tt
user_row_ok r ch o t m (user.CallInitiated again due) CallProceeding h = either (names_channel m.channel ch) _ _ UserOk tt (cause_ok r _ Release 0 6 h tt none)
user_row_ok r ch o t m (user.CallInitiated again due) Connect h = either (names_channel m.channel ch) _ _ UserOk tt (cause_ok r _ Release 0 6 h tt none)
user_row_ok r ch o t m (user.OutgoingCallProceeding due) Connect h = tt
user_row_ok r ch o t m s Progress h = tt
user_row_ok r ch o t m s Notify h = tt
user_row_ok r ch o t m s Information h = tt
user_row_ok r ch o t m s (Other octet) h = status_ok r _ 0 97 (user_state s) h none
user_row_ok r ch o t m s k h = status_ok r _ 0 101 (user_state s) h none

takes_ok : (r ch t : ℕ) (o : UserOrigin) → IsCallReference r → IsChannel ch → UserOk (user_takes (user_call_of r ch o user.CallPresent) t o)
takes_ok r ch t (Offered (Answer n) at) h c = either (n == 0) _ _ UserOk (channel_ok r ch _ Connect h tt c) (channel_ok r ch _ Alerting h tt c)
takes_ok r ch t (Offered (Clear n) at) h c = channel_ok r ch _ Connect h tt c
takes_ok r ch t (Offered Alert at) h c = channel_ok r ch _ Alerting h tt c
takes_ok r ch t (Offered Proceed at) h c = channel_ok r ch _ CallProceeding h tt c
takes_ok r ch t o h c = tt

answers_ok : (r ch t : ℕ) (o : UserOrigin) → IsCallReference r → UserOk (user_answers (user_call_of r ch o user.CallReceived) t o)
answers_ok r ch t (Offered (Answer n) at) h = either (nat_le (at + 1 + n) t) _ _ UserOk (plain_ok r _ Connect h tt) tt
answers_ok r ch t o h = tt

clears_ok : (r ch t since : ℕ) (o : UserOrigin) → IsCallReference r → UserOk (user_clears (user_call_of r ch o (user.Active since)) t since o)
clears_ok r ch t since (Offered (Clear n) at) h = either (nat_le (since + max n 1) t) _ _ UserOk (cause_ok r _ Disconnect 0 16 h tt none) tt
clears_ok r ch t since o h = tt

user_again_ok : (r ch : ℕ) (o : UserOrigin) (s : UserState) → IsCallReference r → IsChannel ch → CalledBy o → OfSaid Sendable (user_setup_again (user_call_of r ch o s) o)
user_again_ok r ch (Calling called) s h c n = setup_ok r ch called h c n
user_again_ok r ch (Offered policy at) s h c n = tt

pub user_second_ok : (r ch : ℕ) (o : UserOrigin) (t : ℕ) (s : UserState) → IsCallReference r → IsChannel ch → CalledBy o → OfSaid Sendable (user_second (user_call_of r ch o s) t).reply
user_second_ok r ch o t user.CallPresent h c n = takes_ok r ch t o h c
user_second_ok r ch o t user.CallReceived h c n = answers_ok r ch t o h
user_second_ok r ch o t (user.ConnectRequest due) h c n = either (nat_le due t) _ _ UserOk (cause_ok r _ Disconnect 0 102 h tt none) tt
user_second_ok r ch o t (user.Active since) h c n = clears_ok r ch t since o h
user_second_ok r ch o t user.IncomingCallProceeding h c n = tt
user_second_ok r ch o t (user.CallInitiated false due) h c n = either (nat_le due t) _ _ UserOk (user_again_ok r ch o (user.CallInitiated false due) h c n) tt
user_second_ok r ch o t (user.CallInitiated true due) h c n = either (nat_le due t) _ _ UserOk (cause_ok r _ ReleaseComplete 0 102 h tt none) tt
user_second_ok r ch o t (user.OutgoingCallProceeding due) h c n = either (nat_le due t) _ _ UserOk (cause_ok r _ Disconnect 0 102 h tt none) tt
user_second_ok r ch o t (user.DisconnectRequest cause due) h c n = either (nat_le due t) _ _ UserOk (cause_ok r _ Release 0 cause h tt none) tt
user_second_ok r ch o t (user.ReleaseRequest Twice cause due) h c n = either (nat_le due t) _ _ UserOk tt tt
user_second_ok r ch o t (user.ReleaseRequest NotYet cause due) h c n = either (nat_le due t) _ _ UserOk (kept_ok r _ Release 0 cause h tt none) tt
user_second_ok r ch o t (user.ReleaseRequest Once cause due) h c n = either (nat_le due t) _ _ UserOk (kept_ok r _ Release 0 cause h tt none) tt
