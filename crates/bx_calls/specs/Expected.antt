-- Private: which messages have a row for every state, and which only some states expect.
use Rattle.std.specs.Prelude.{Option, Some, None, if◌then◌else◌}
use Rattle.bx_q931.specs.Outgoing.{Outgoing}
use Rattle.bx_q931.specs.declared.kind.Kind.{Kind}
use Rattle.bx_q931.specs.declared.kind.Kind.TheVariants.{Setup, Release, ReleaseComplete, StatusEnquiry, Status}
use Rattle.bx_calls.specs.declared.transition.Transition.{Transition}
use Rattle.bx_calls.specs.declared.net_state.NetState.{NetState}
use Rattle.bx_calls.specs.declared.net_state.NetState.TheVariants as net
use Rattle.bx_calls.specs.declared.user_state.UserState.{UserState}
use Rattle.bx_calls.specs.declared.user_state.UserState.TheVariants as user
use Rattle.bx_calls.specs.Hearing.{Heard, reports_null}
use Rattle.bx_calls.specs.NetTable.{net_awake_state, net_says}
use Rattle.bx_calls.specs.PlainCalls.{PlainNetCall, PlainUserCall}
use Rattle.bx_calls.specs.Steps.{goes_on, ends}
use Rattle.bx_calls.specs.UserTable.{user_says}

-- the rows that stand for every state: what answers STATUS ENQUIRY and RELEASE is the call's own
abbrev pub every_state_row : {A : Type 0} → A → Heard → Outgoing → Option Outgoing → Kind → Option (Transition A)
every_state_row call m status released ReleaseComplete = Some (ends None)
every_state_row call m status released StatusEnquiry = Some (goes_on call (Some status))
every_state_row call m status released Status = Some (if reports_null m.state then ends None else goes_on call None)
every_state_row call m status released Setup = Some (goes_on call None)
every_state_row call m status released Release = Some (ends released)
every_state_row call m status released _ = None

-- what answers RELEASE, where the call has not sent one itself
abbrev pub net_released : PlainNetCall → NetState → Option Outgoing
net_released c (net.ReleaseRequest sent cause due) = None
net_released c _ = Some (net_says c ReleaseComplete)

abbrev pub user_released : PlainUserCall → UserState → Option Outgoing
user_released c (user.ReleaseRequest sent cause due) = None
user_released c _ = Some (user_says c ReleaseComplete)

-- the call, asked no more
abbrev pub net_awake : PlainNetCall → PlainNetCall
net_awake c = record c { state = net_awake_state c.state }

-- not one of the messages whose rows stand for every state
abbrev pub IsProgress : Kind → Type 0
IsProgress ReleaseComplete = ⊥
IsProgress StatusEnquiry = ⊥
IsProgress Status = ⊥
IsProgress Setup = ⊥
IsProgress Release = ⊥
IsProgress _ = Unit {0}
