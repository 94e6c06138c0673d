-- The call table of the network side (ITU-T Q.931, 5.1 to 5.3 and 5.8): one line for a row, and the first
-- row that fits counts. N3, N6, N9, N7, N10, N12 and N19 are OutgoingCallProceeding, CallPresent,
-- IncomingCallProceeding, CallReceived, Active, DisconnectIndication and ReleaseRequest. Enquiring is N10 too, while the
-- user is asked whether the call is still up.
use Rattle.std.specs.Prelude.{◌≡◌, ◌≤◌, ℕ, ◌+◌, nat_le, Bool, true, false, not, ◌&&◌, ◌||◌, ◌==◌, List, Option, Some, None, if◌then◌else◌}
use Rattle.bx_q931.specs.Outgoing.{Outgoing, plain}
use Rattle.bx_q931.specs.declared.kind.Kind.{Kind}
use Rattle.bx_q931.specs.declared.kind.Kind.TheVariants.{Alerting, CallProceeding, Progress, Setup, Connect, ConnectAcknowledge, Disconnect, Release, ReleaseComplete, Notify, StatusEnquiry, Information, Status, Other}
use Rattle.bx_calls.specs.declared.transition.Transition.{Transition}
use Rattle.bx_calls.specs.declared.net_state.NetOrigin.{NetOrigin}
use Rattle.bx_calls.specs.declared.net_state.NetOrigin.TheVariants.{Outward, Inward}
use Rattle.bx_calls.specs.declared.times.Times.{Times}
use Rattle.bx_calls.specs.declared.times.Times.TheVariants.{NotYet, Once, Twice}
use Rattle.bx_calls.specs.declared.net_state.Offer.{Offer}
use Rattle.bx_calls.specs.declared.net_state.Offer.TheVariants.{First, Second, Anew, PutOff, Unlinked, Asked}
use Rattle.bx_calls.specs.declared.net_state.NetState.{NetState}
use Rattle.bx_calls.specs.declared.net_state.NetState.TheVariants.{OutgoingCallProceeding, CallPresent, IncomingCallProceeding, CallReceived, Active, Enquiring, DisconnectIndication, ReleaseRequest}
use Rattle.bx_calls.specs.Timers.{t301, t303, t305, t308, t310, t322}
use Rattle.bx_calls.specs.PlainCalls.{PlainNetCall}
use Rattle.bx_calls.specs.States.{net_state}
use Rattle.bx_events.specs.declared.rules.Rules.{Rules}
use Rattle.bx_events.specs.declared.rules.Rules.TheVariants.{Two, Three}
use Rattle.bx_calls.specs.Hearing.{Heard, names_channel, reports_null, lacks_call, is_passing, is_by_three}
use Rattle.bx_calls.specs.Saying.{network, with_cause, with_kept_cause, with_channel, status_of, setup_of}
use Rattle.bx_calls.specs.Steps.{goes_on, ends, breaks}

-- ---- calls and their messages

-- the flag of what this side sends: 0 from the side that began the call
abbrev pub net_flag : NetOrigin → Bool
net_flag (Outward called) = false
net_flag Inward = true

abbrev pub net_says : PlainNetCall → Kind → Outgoing
net_says c kind = plain c.reference (net_flag c.origin) kind

abbrev pub net_says_cause : PlainNetCall → Kind → ℕ → Outgoing
net_says_cause c kind cause = with_cause network cause (net_says c kind)

abbrev pub net_status : PlainNetCall → ℕ → Outgoing
net_status c cause = status_of c.reference (net_flag c.origin) network cause (net_state c.state)

-- how a first SETUP is sent; is_back says that there was no link in the second before
abbrev pub first_offer : Bool → Offer
first_offer is_back = if is_back then Anew else First

-- a call that this side begins, and one that the user began
abbrev pub net_offered : ℕ → ℕ → List ℕ → Bool → ℕ → PlainNetCall
net_offered reference channel number is_back moment =
    record { reference = reference; channel = channel; origin = Outward number; state = CallPresent (first_offer is_back) (moment + t303) }

abbrev pub net_answered : ℕ → ℕ → PlainNetCall
net_answered reference channel =
    record { reference = reference; channel = channel; origin = Inward; state = OutgoingCallProceeding }

abbrev pub proceeding_of : ℕ → ℕ → Outgoing
proceeding_of reference channel = with_channel channel (plain reference true CallProceeding)

-- ---- what a row says

abbrev pub net_same : PlainNetCall → Option Outgoing → Transition PlainNetCall
net_same c reply = goes_on c reply

abbrev pub net_to : PlainNetCall → Option Outgoing → NetState → Transition PlainNetCall
net_to c reply state = goes_on (record c { state = state }) reply

-- RELEASE with this cause or none, N19, T308
abbrev pub net_releases : PlainNetCall → Times → Option ℕ → ℕ → Transition PlainNetCall
net_releases c sent cause t =
    net_to c (Some (with_kept_cause network cause (net_says c Release))) (ReleaseRequest sent cause (t + t308))

-- DISCONNECT with this cause, N12, T305
abbrev pub net_disconnects : PlainNetCall → ℕ → ℕ → Transition PlainNetCall
net_disconnects c cause t =
    net_to c (Some (net_says_cause c Disconnect cause)) (DisconnectIndication cause (t + t305))

-- SETUP again, of a call that this side began
abbrev pub net_setup_again : PlainNetCall → NetOrigin → Option Outgoing
net_setup_again c (Outward called) = Some (setup_of c.reference c.channel called)
net_setup_again c Inward = None

-- with T303
abbrev pub net_offers : PlainNetCall → Offer → ℕ → Transition PlainNetCall
net_offers c offer t = net_to c (net_setup_again c c.origin) (CallPresent offer (t + t303))

-- STATUS ENQUIRY, T322
abbrev pub net_asks : PlainNetCall → Times → ℕ → Transition PlainNetCall
net_asks c asked t = net_to c (Some (net_says c StatusEnquiry)) (Enquiring asked (t + t322))

-- a row that stands where the channel identification is absent or names the channel of the call; else
-- RELEASE with cause 6, channel unacceptable (profile)
abbrev pub net_on_channel : PlainNetCall → Heard → ℕ → Transition PlainNetCall → Transition PlainNetCall
net_on_channel c m t row = if names_channel m.channel c.channel then row else net_releases c Once (Some 6) t

-- CONNECT ACKNOWLEDGE in N10
abbrev pub net_acknowledged : PlainNetCall → NetOrigin → Transition PlainNetCall
net_acknowledged c Inward = net_same c None
net_acknowledged c (Outward called) = net_same c (Some (net_status c 101))

-- ---- messages: a call c in this state, a message m of this type, moment t

abbrev pub net_row : PlainNetCall → Heard → ℕ → NetState → Kind → Transition PlainNetCall
-- every state (5.3.3, 5.8.10, 5.8.11)
net_row c m t _ ReleaseComplete = ends None
net_row c m t _ StatusEnquiry = net_same c (Some (net_status c 30))
net_row c m t _ Status = if reports_null m.state then ends None else net_same c None
net_row c m t _ Setup = net_same c None
-- clearing (5.3.3, 5.3.4, 5.3.5)
net_row c m t (ReleaseRequest sent cause due) Release = ends None
net_row c m t _ Release = ends (Some (net_says c ReleaseComplete))
net_row c m t (ReleaseRequest sent cause due) _ = net_same c None
net_row c m t _ Disconnect = net_releases c Once None t
net_row c m t (DisconnectIndication cause due) _ = net_same c None
-- N6: the channel is looked at (5.2.3)
net_row c m t (CallPresent offer due) CallProceeding = net_on_channel c m t (net_to c None (IncomingCallProceeding (t + t310)))
net_row c m t (CallPresent offer due) Alerting = net_on_channel c m t (net_to c None (CallReceived (t + t301)))
net_row c m t (CallPresent offer due) Connect = net_on_channel c m t (net_to c (Some (net_says c ConnectAcknowledge)) Active)
-- N9 and N7: it is not looked at (5.2.5, 5.2.7, 5.2.8)
net_row c m t (IncomingCallProceeding due) Alerting = net_to c None (CallReceived (t + t301))
net_row c m t (IncomingCallProceeding due) Connect = net_to c (Some (net_says c ConnectAcknowledge)) Active
net_row c m t (CallReceived due) Connect = net_to c (Some (net_says c ConnectAcknowledge)) Active
-- N10: of a call that the user began (5.1.8)
net_row c m t Active ConnectAcknowledge = net_acknowledged c c.origin
-- N3, N6, N9, N7 and N10 (5.8.4; the first three rows are the profile's)
net_row c m t _ Progress = net_same c None
net_row c m t _ Notify = net_same c None
net_row c m t _ Information = net_same c None
net_row c m t _ (Other octet) = net_same c (Some (net_status c 97))
net_row c m t _ _ = net_same c (Some (net_status c 101))

-- ---- a call that the user is asked for

-- the call states of the user that fit N10: Active, and those that CONNECT ACKNOWLEDGE or CONNECT, if it is still on its way,
-- takes there
abbrev pub fits_active : NetOrigin → ℕ → Bool
fits_active (Outward called) n = n == 10 || n == 8
fits_active Inward n = n == 10 || (n == 3 || n == 1)

-- a call state that can be read, is not Null, and does not fit
abbrev pub reports_other : NetOrigin → Option ℕ → Bool
reports_other o None = false
reports_other o (Some n) = not (n == 0) && not (fits_active o n)

-- the user was asked, and by STATUS reports such a state (5.8.11)
abbrev pub net_is_contradicted : NetState → NetOrigin → Heard → Kind → Bool
net_is_contradicted (Enquiring asked due) o m Status = reports_other o m.state
net_is_contradicted _ o m _ = false

-- the user was asked, and by STATUS reports that it waits for CONNECT ACKNOWLEDGE, which was lost, as CONNECT was in N6
abbrev pub waits_for_acknowledge : Option ℕ → Bool
waits_for_acknowledge None = false
waits_for_acknowledge (Some n) = n == 8

abbrev pub has_connected : Option ℕ → Bool
has_connected None = false
has_connected (Some n) = n == 8 || n == 10

abbrev pub net_is_unacknowledged : NetState → NetOrigin → Heard → Kind → Bool
net_is_unacknowledged (Enquiring asked due) (Outward called) m Status = waits_for_acknowledge m.state
net_is_unacknowledged (CallPresent Asked due) o m Status = has_connected m.state
net_is_unacknowledged _ o m _ = false

-- the offer is one after seconds without a link
abbrev pub is_after_outage : Offer → Bool
is_after_outage First = false
is_after_outage Second = false
is_after_outage _ = true

-- SETUP goes out again only when the user has said more, or nothing: that it lacks the call answers a STATUS ENQUIRY, the last one or, by
-- the rules 3, one before it
abbrev pub awaits_word : Rules → Offer → Bool
awaits_word rules Asked = true
awaits_word rules Unlinked = is_by_three rules
awaits_word rules PutOff = is_by_three rules
awaits_word rules _ = false

-- such an offer is refused by a cause that passes, or the user was asked, and reports that it has no such call: by STATUS, or, by
-- the rules 3, by RELEASE COMPLETE (5.8.3.2)
abbrev pub net_is_put_off : NetState → Heard → Kind → Bool
net_is_put_off (CallPresent offer due) m ReleaseComplete =
    (is_after_outage offer && is_passing m.cause) || (awaits_word m.rules offer && (is_by_three m.rules && lacks_call m.cause))
net_is_put_off (CallPresent offer due) m Status = awaits_word m.rules offer && reports_null m.state
net_is_put_off _ m _ = false

-- SETUP is due a second later
abbrev pub net_put_off : ℕ → NetState → NetState
net_put_off t (CallPresent PutOff due) = CallPresent PutOff due
net_put_off t _ = CallPresent PutOff (t + 1)

-- by the rules 3: the user was asked, and by STATUS reports that it waits for CONNECT, which was lost, of a call that it began
abbrev pub waits_for_connect : Option ℕ → Bool
waits_for_connect None = false
waits_for_connect (Some n) = n == 3 || n == 1

abbrev pub net_is_unconnected : NetState → NetOrigin → Heard → Kind → Bool
net_is_unconnected (Enquiring asked due) Inward m Status = is_by_three m.rules && waits_for_connect m.state
net_is_unconnected _ o m _ = false

-- CONNECT with the channel, N10
abbrev pub net_connects : PlainNetCall → Transition PlainNetCall
net_connects c = net_to c (Some (with_channel c.channel (net_says c Connect))) Active

-- by the rules 3: the user was asked in N6, and by STATUS reports that it has the call, and has not answered it yet
abbrev pub reports_ringing : Option ℕ → Bool
reports_ringing None = false
reports_ringing (Some n) = n == 9 || n == 7

abbrev pub net_is_ringing : NetState → Heard → Kind → Bool
net_is_ringing (CallPresent Asked due) m Status = is_by_three m.rules && reports_ringing m.state
net_is_ringing _ m _ = false

-- as by CALL PROCEEDING, or by ALERTING
abbrev pub is_alerted : Option ℕ → Bool
is_alerted None = false
is_alerted (Some n) = n == 7

abbrev pub net_rung : ℕ → Option ℕ → NetState
net_rung t reported = if is_alerted reported then CallReceived (t + t301) else IncomingCallProceeding (t + t310)

-- any other message of the call shows that it is up (5.8.10)
abbrev pub net_awake_state : NetState → NetState
net_awake_state (Enquiring asked due) = Active
net_awake_state state = state

-- a call in this state, whether the user was asked or not
abbrev pub net_heard : PlainNetCall → Heard → ℕ → NetState → Kind → Transition PlainNetCall
net_heard c m t s k =
    if net_is_contradicted s c.origin m k then net_releases c Once (Some 101) t
    else if net_is_unacknowledged s c.origin m k then net_to c (Some (net_says c ConnectAcknowledge)) Active
    else if net_is_put_off s m k then net_to c None (net_put_off t s)
    else if net_is_unconnected s c.origin m k then net_connects c
    else if net_is_ringing s m k then net_to c None (net_rung t m.state)
    else net_row (record c { state = net_awake_state s }) m t (net_awake_state s) k

abbrev pub net_message : PlainNetCall → Heard → ℕ → Transition PlainNetCall
net_message c m t = net_heard c m t c.state m.kind

-- ---- seconds: a tick to moment t

-- the call is being cleared
abbrev pub net_is_clearing : NetState → Bool
net_is_clearing (DisconnectIndication cause due) = true
net_is_clearing (ReleaseRequest sent cause due) = true
net_is_clearing _ = false

-- N6, whose timer is due
abbrev pub net_offer_due : PlainNetCall → ℕ → Offer → Transition PlainNetCall
net_offer_due c t First = net_offers c Second t
net_offer_due c t Second = ends (Some (net_says_cause c ReleaseComplete 102))
net_offer_due c t Anew = net_offers c Second t
net_offer_due c t PutOff = net_offers c First t
net_offer_due c t Unlinked = net_to c (Some (net_says c StatusEnquiry)) (CallPresent Asked (t + t322))
net_offer_due c t Asked = net_offers c First t

-- N19, whose timer is due
abbrev pub net_release_due : PlainNetCall → ℕ → Times → Option ℕ → Transition PlainNetCall
net_release_due c t NotYet cause = net_releases c Once cause t
net_release_due c t Once cause = net_releases c Twice cause t
net_release_due c t Twice cause = breaks

-- by its timer, which is due at a moment
abbrev pub net_timer : PlainNetCall → ℕ → NetState → Transition PlainNetCall
net_timer c t OutgoingCallProceeding = net_connects c
net_timer c t (CallPresent offer due) = if nat_le due t then net_offer_due c t offer else net_same c None
net_timer c t (IncomingCallProceeding due) = if nat_le due t then net_disconnects c 102 t else net_same c None
net_timer c t (CallReceived due) = if nat_le due t then net_disconnects c 102 t else net_same c None
net_timer c t Active = net_same c None
net_timer c t (Enquiring NotYet due) = if nat_le due t then net_asks c Once t else net_same c None
net_timer c t (Enquiring Once due) = if nat_le due t then net_asks c Twice t else net_same c None
net_timer c t (Enquiring Twice due) = if nat_le due t then net_disconnects c 41 t else net_same c None
net_timer c t (DisconnectIndication cause due) = if nat_le due t then net_releases c Once (Some cause) t else net_same c None
net_timer c t (ReleaseRequest sent cause due) = if nat_le due t then net_release_due c t sent cause else net_same c None

-- the end of the booking comes before the timer
abbrev pub net_second : PlainNetCall → ℕ → ℕ → Transition PlainNetCall
net_second c t end =
    if not (net_is_clearing c.state) && nat_le end t then net_disconnects c 16 t
    else net_timer c t c.state

-- the moment at which the timer is due
abbrev pub net_due : NetState → Option ℕ
net_due OutgoingCallProceeding = None
net_due (CallPresent offer due) = Some due
net_due (IncomingCallProceeding due) = Some due
net_due (CallReceived due) = Some due
net_due Active = None
net_due (Enquiring asked due) = Some due
net_due (DisconnectIndication cause due) = Some due
net_due (ReleaseRequest sent cause due) = Some due

-- ---- n seconds without a link to the user, of which the last comes to moment t

-- N9 and N7: by the rules 3 the call is asked for as in N6, and T310 or T301 begins anew where the user reports that it goes on; by the
-- rules 2 its timer stands still
abbrev pub net_rings_on : Rules → ℕ → NetState → NetState
net_rings_on Two t later = later
net_rings_on Three t later = CallPresent Unlinked (t + 1)

-- the state after one such second or more, by these rules. In the next second with a link the user is asked whether it has a call in N6,
-- N9 or N7, and whether one in N10 is still up (5.8.9, 5.8.10), and a call that is being cleared says RELEASE, as if for the first time.
abbrev pub net_lost : Rules → ℕ → ℕ → NetState → NetState
net_lost rules n t OutgoingCallProceeding = OutgoingCallProceeding
net_lost rules n t (CallPresent offer due) = CallPresent Unlinked (t + 1)
net_lost rules n t (IncomingCallProceeding due) = net_rings_on rules t (IncomingCallProceeding (due + n))
net_lost rules n t (CallReceived due) = net_rings_on rules t (CallReceived (due + n))
net_lost rules n t Active = Enquiring NotYet (t + 1)
net_lost rules n t (Enquiring asked due) = Enquiring NotYet (t + 1)
net_lost rules n t (DisconnectIndication cause due) = DisconnectIndication cause (t + 1)
net_lost rules n t (ReleaseRequest sent cause due) = ReleaseRequest NotYet cause (t + 1)

abbrev pub net_later : Rules → ℕ → ℕ → NetState → NetState
net_later rules n t state = if n == 0 then state else net_lost rules n t state

-- the end of the booking clears the call, as at a tick, but its DISCONNECT is lost: so RELEASE is due in the next second
-- with a link
abbrev pub net_unlinked : Rules → ℕ → PlainNetCall → ℕ → ℕ → Transition PlainNetCall
net_unlinked rules n c t end =
    if not (net_is_clearing c.state) && nat_le end t then net_to c None (DisconnectIndication 16 (t + 1))
    else net_to c None (net_later rules n t c.state)

-- a timer, if it runs, is due at this moment at the latest
abbrev pub IsDueBy : ℕ → NetState → Type 0
IsDueBy m state = (due : ℕ) → net_due state ≡ Some due → due ≤ m

-- what holds where the timer can be put off by n seconds within a word
abbrev pub IfDueFits : ℕ → NetState → Type 0 → Type 0
IfDueFits n state P = (latest : ℕ) → IsDueBy latest state → latest + n ≤ 4294967295 → P
