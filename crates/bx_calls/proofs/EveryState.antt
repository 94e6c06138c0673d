-- The rows that stand for every state are rows of both tables.
use Rattle.std.proofs.Common.{◌≡◌, ℕ, Option, Some, None}
use Rattle.bx_q931.specs.Outgoing.{Outgoing}
use Rattle.bx_q931.specs.declared.kind.Kind.{Kind}
use Rattle.bx_q931.specs.declared.kind.Kind.TheVariants.{Setup, Release, ReleaseComplete, StatusEnquiry, Status}
use Rattle.bx_calls.specs.declared.transition.Transition.{Transition}
use Rattle.bx_calls.specs.declared.net_state.NetState.{NetState}
use Rattle.bx_calls.specs.declared.net_state.NetState.TheVariants as net
use Rattle.bx_calls.specs.declared.user_state.UserState.{UserState}
use Rattle.bx_calls.specs.declared.user_state.UserState.TheVariants as user
use Rattle.bx_calls.specs.Expected.{every_state_row, IsProgress, net_released, user_released}
use Rattle.bx_calls.specs.Hearing.{Heard}
use Rattle.bx_calls.specs.NetTable.{net_status, net_row}
use Rattle.bx_calls.specs.PlainCalls.{PlainNetCall, PlainUserCall}
use Rattle.bx_calls.specs.UserTable.{user_status, user_row}

-- any other message is one that only some states expect
pub progress_of : {A : Type 0} (call : A) (m : Heard) (status : Outgoing) (released : Option Outgoing) (kind : Kind) → every_state_row call m status released kind ≡ None → IsProgress kind
progress_of call m status released Setup e = cc
progress_of call m status released Release e = cc
progress_of call m status released ReleaseComplete e = cc
progress_of call m status released StatusEnquiry e = cc
progress_of call m status released Status e = cc
progress_of call m status released kind e = tt

pub net_every : (c : PlainNetCall) (m : Heard) (t : ℕ) (state : NetState) (kind : Kind) (row : Transition PlainNetCall) → every_state_row c m (net_status c 30) (net_released c state) kind ≡ Some row → row ≡ net_row c m t state kind
net_every c m t state Setup row e = cc
net_every c m t (net.ReleaseRequest again cause due) Release row e = cc
net_every c m t state kind row e = cc

pub user_every : (c : PlainUserCall) (m : Heard) (t : ℕ) (state : UserState) (kind : Kind) (row : Transition PlainUserCall) → every_state_row c m (user_status c 30) (user_released c state) kind ≡ Some row → row ≡ user_row c m t state kind
user_every c m t state Setup row e = cc
user_every c m t (user.ReleaseRequest again cause due) Release row e = cc
user_every c m t state kind row e = cc
