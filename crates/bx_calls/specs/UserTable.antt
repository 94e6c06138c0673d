-- The call table of the user side (ITU-T Q.931, 5.1 to 5.3 and 5.8): one line for a row, and the first row
-- that fits counts. U1, U3, U6, U7, U8, U9, U10, U11 and U19 are CallInitiated, OutgoingCallProceeding,
-- CallPresent, CallReceived, ConnectRequest, IncomingCallProceeding, Active, DisconnectRequest and
-- ReleaseRequest.
use Rattle.std.specs.Prelude.{ℕ, ◌+◌, ◌==◌, max, min, nat_le, Bool, true, false, List, Option, Some, None, if◌then◌else◌}
use Rattle.bx_q931.specs.Outgoing.{Outgoing, plain}
use Rattle.bx_q931.specs.declared.kind.Kind.{Kind}
use Rattle.bx_q931.specs.declared.kind.Kind.TheVariants.{Alerting, CallProceeding, Progress, Setup, Connect, ConnectAcknowledge, Disconnect, Release, ReleaseComplete, Notify, StatusEnquiry, Information, Status, Other}
use Rattle.bx_calls.specs.declared.transition.Transition.{Transition}
use Rattle.bx_calls.specs.declared.times.Times.{Times}
use Rattle.bx_calls.specs.declared.times.Times.TheVariants.{NotYet, Once, Twice}
use Rattle.bx_calls.specs.declared.user_state.Policy.{Policy}
use Rattle.bx_calls.specs.declared.user_state.Policy.TheVariants.{Answer, Alert, Proceed, Clear}
use Rattle.bx_calls.specs.declared.user_state.UserOrigin.{UserOrigin}
use Rattle.bx_calls.specs.declared.user_state.UserOrigin.TheVariants.{Offered, Calling}
use Rattle.bx_calls.specs.declared.user_state.UserState.{UserState}
use Rattle.bx_calls.specs.declared.user_state.UserState.TheVariants.{CallInitiated, OutgoingCallProceeding, CallPresent, CallReceived, ConnectRequest, IncomingCallProceeding, Active, DisconnectRequest, ReleaseRequest}
use Rattle.bx_calls.specs.Timers.{t303, t305, t308, t310_user, t313}
use Rattle.bx_calls.specs.PlainCalls.{PlainUserCall}
use Rattle.bx_calls.specs.States.{user_state}
use Rattle.bx_calls.specs.Hearing.{Heard, names_channel, reports_null}
use Rattle.bx_calls.specs.Saying.{user, with_cause, with_kept_cause, with_channel, status_of, setup_of}
use Rattle.bx_calls.specs.Steps.{goes_on, ends, breaks}

-- ---- calls and their messages

-- the flag of what this side sends: 0 from the side that began the call
abbrev pub user_flag : UserOrigin → Bool
user_flag (Offered policy at) = true
user_flag (Calling called) = false

abbrev pub user_says : PlainUserCall → Kind → Outgoing
user_says c kind = plain c.reference (user_flag c.origin) kind

abbrev pub user_says_channel : PlainUserCall → Kind → Outgoing
user_says_channel c kind = with_channel c.channel (user_says c kind)

abbrev pub user_says_cause : PlainUserCall → Kind → ℕ → Outgoing
user_says_cause c kind cause = with_cause user cause (user_says c kind)

abbrev pub user_status : PlainUserCall → ℕ → Outgoing
user_status c cause = status_of c.reference (user_flag c.origin) user cause (user_state c.state)

-- a call that the network began, and one that this side begins
abbrev pub user_offered : ℕ → ℕ → Policy → ℕ → PlainUserCall
user_offered reference channel policy moment =
    record { reference = reference; channel = channel; origin = Offered policy moment; state = CallPresent }

abbrev pub user_calling : ℕ → ℕ → List ℕ → ℕ → PlainUserCall
user_calling reference channel number moment =
    record { reference = reference; channel = channel; origin = Calling number; state = CallInitiated false (moment + t303) }

-- ---- what a row says

abbrev pub user_same : PlainUserCall → Option Outgoing → Transition PlainUserCall
user_same c reply = goes_on c reply

abbrev pub user_to : PlainUserCall → Option Outgoing → UserState → Transition PlainUserCall
user_to c reply state = goes_on (record c { state = state }) reply

-- RELEASE with this cause or none, U19, T308
abbrev pub user_releases : PlainUserCall → Times → Option ℕ → ℕ → Transition PlainUserCall
user_releases c sent cause t =
    user_to c (Some (with_kept_cause user cause (user_says c Release))) (ReleaseRequest sent cause (t + t308))

-- DISCONNECT with this cause, U11, T305
abbrev pub user_disconnects : PlainUserCall → ℕ → ℕ → Transition PlainUserCall
user_disconnects c cause t =
    user_to c (Some (user_says_cause c Disconnect cause)) (DisconnectRequest cause (t + t305))

-- this CONNECT, U8, T313
abbrev pub user_connects : PlainUserCall → Outgoing → ℕ → Transition PlainUserCall
user_connects c connect t = user_to c (Some connect) (ConnectRequest (t + t313))

-- SETUP again, of a call that this side began
abbrev pub user_setup_again : PlainUserCall → UserOrigin → Option Outgoing
user_setup_again c (Calling called) = Some (setup_of c.reference c.channel called)
user_setup_again c (Offered policy at) = None

-- a row that stands where the channel identification is absent or names the channel of the call; else
-- RELEASE with cause 6, channel unacceptable (profile)
abbrev pub user_on_channel : PlainUserCall → Heard → ℕ → Transition PlainUserCall → Transition PlainUserCall
user_on_channel c m t row = if names_channel m.channel c.channel then row else user_releases c Once (Some 6) t

-- ---- messages: a call c in this state, a message m of this type, moment t

abbrev pub user_row : PlainUserCall → Heard → ℕ → UserState → Kind → Transition PlainUserCall
-- every state (5.3.3, 5.8.10, 5.8.11)
user_row c m t _ ReleaseComplete = ends None
user_row c m t _ StatusEnquiry = user_same c (Some (user_status c 30))
user_row c m t _ Status = if reports_null m.state then ends None else user_same c None
user_row c m t _ Setup = user_same c None
-- clearing (5.3.3, 5.3.4, 5.3.5)
user_row c m t (ReleaseRequest sent cause due) Release = ends None
user_row c m t _ Release = ends (Some (user_says c ReleaseComplete))
user_row c m t (ReleaseRequest sent cause due) _ = user_same c None
user_row c m t _ Disconnect = user_releases c Once None t
user_row c m t (DisconnectRequest cause due) _ = user_same c None
-- U8: the network has acknowledged (5.2.8)
user_row c m t (ConnectRequest due) ConnectAcknowledge = user_to c None (Active t)
-- U1: the channel is looked at (5.1.2, 5.1.5); U3: it is not (5.1.8)
user_row c m t (CallInitiated again due) CallProceeding = user_on_channel c m t (user_to c None (OutgoingCallProceeding (t + t310_user)))
user_row c m t (CallInitiated again due) Connect = user_on_channel c m t (user_to c None (Active t))
user_row c m t (OutgoingCallProceeding due) Connect = user_to c None (Active t)
-- all but U11 and U19 (5.8.4; the first three rows are the profile's)
user_row c m t _ Progress = user_same c None
user_row c m t _ Notify = user_same c None
user_row c m t _ Information = user_same c None
user_row c m t _ (Other octet) = user_same c (Some (user_status c 97))
user_row c m t _ _ = user_same c (Some (user_status c 101))

abbrev pub user_message : PlainUserCall → Heard → ℕ → Transition PlainUserCall
user_message c m t = user_row c m t c.state m.kind

-- ---- seconds: a tick to moment t

-- U6, by the policy
abbrev pub user_takes : PlainUserCall → ℕ → UserOrigin → Transition PlainUserCall
user_takes c t (Offered (Answer n) at) = if n == 0 then user_connects c (user_says_channel c Connect) t else user_to c (Some (user_says_channel c Alerting)) CallReceived
user_takes c t (Offered (Clear n) at) = user_connects c (user_says_channel c Connect) t
user_takes c t (Offered Alert at) = user_to c (Some (user_says_channel c Alerting)) CallReceived
user_takes c t (Offered Proceed at) = user_to c (Some (user_says_channel c CallProceeding)) IncomingCallProceeding
user_takes c t _ = user_same c None

-- U7, n seconds after the first tick to a call that was offered at this moment
abbrev pub user_answers : PlainUserCall → ℕ → UserOrigin → Transition PlainUserCall
user_answers c t (Offered (Answer n) at) = if nat_le (at + 1 + n) t then user_connects c (user_says c Connect) t else user_same c None
user_answers c t _ = user_same c None

-- U10, n seconds after the moment at which it became Active, and not in that same second
abbrev pub user_clears : PlainUserCall → ℕ → ℕ → UserOrigin → Transition PlainUserCall
user_clears c t since (Offered (Clear n) at) = if nat_le (since + max n 1) t then user_disconnects c 16 t else user_same c None
user_clears c t since _ = user_same c None

-- U19, whose timer is due
abbrev pub user_release_due : PlainUserCall → ℕ → Times → Option ℕ → Transition PlainUserCall
user_release_due c t NotYet cause = user_releases c Once cause t
user_release_due c t Once cause = user_releases c Twice cause t
user_release_due c t Twice cause = breaks

abbrev pub user_second_row : PlainUserCall → ℕ → UserState → Transition PlainUserCall
user_second_row c t CallPresent = user_takes c t c.origin
user_second_row c t CallReceived = user_answers c t c.origin
user_second_row c t (ConnectRequest due) = if nat_le due t then user_disconnects c 102 t else user_same c None
user_second_row c t (Active since) = user_clears c t since c.origin
user_second_row c t IncomingCallProceeding = user_same c None
user_second_row c t (CallInitiated false due) = if nat_le due t then user_to c (user_setup_again c c.origin) (CallInitiated true (t + t303)) else user_same c None
user_second_row c t (CallInitiated true due) = if nat_le due t then ends (Some (user_says_cause c ReleaseComplete 102)) else user_same c None
user_second_row c t (OutgoingCallProceeding due) = if nat_le due t then user_disconnects c 102 t else user_same c None
user_second_row c t (DisconnectRequest cause due) = if nat_le due t then user_releases c Once (Some cause) t else user_same c None
user_second_row c t (ReleaseRequest sent cause due) = if nat_le due t then user_release_due c t sent cause else user_same c None

abbrev pub user_second : PlainUserCall → ℕ → Transition PlainUserCall
user_second c t = user_second_row c t c.state

-- ---- a second without a link to the network, to moment t

-- a timer is due a second later; a moment has 32 bits
abbrev pub due_later : ℕ → ℕ
due_later due = min (due + 1) 4294967295

-- nothing is said in it, and the timers of calls that are set up stand still. In the next second with a link a call that is being
-- cleared says RELEASE, as if for the first time, and the network has all of T313 to acknowledge a CONNECT.
abbrev pub user_later : ℕ → UserState → UserState
user_later t (CallInitiated again due) = CallInitiated again (due_later due)
user_later t (OutgoingCallProceeding due) = OutgoingCallProceeding (due_later due)
user_later t (ConnectRequest due) = ConnectRequest (t + t313)
user_later t (DisconnectRequest cause due) = DisconnectRequest cause (t + 1)
user_later t (ReleaseRequest sent cause due) = ReleaseRequest NotYet cause (t + 1)
user_later t CallPresent = CallPresent
user_later t CallReceived = CallReceived
user_later t IncomingCallProceeding = IncomingCallProceeding
user_later t (Active since) = Active since

abbrev pub user_unlinked : ℕ → PlainUserCall → PlainUserCall
user_unlinked t c = record c { state = user_later t c.state }
