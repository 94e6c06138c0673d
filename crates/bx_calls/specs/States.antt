-- Call states by their numbers (ITU-T Q.931, 2.1 and 4.5.7).
use Rattle.std.specs.Prelude.{ℕ}
use Rattle.bx_calls.specs.declared.call_state.CallState.{CallState}
use Rattle.bx_calls.specs.declared.call_state.CallState.TheVariants as call
use Rattle.bx_calls.specs.declared.net_state.NetState.{NetState}
use Rattle.bx_calls.specs.declared.net_state.NetState.TheVariants as net
use Rattle.bx_calls.specs.declared.user_state.UserState.{UserState}
use Rattle.bx_calls.specs.declared.user_state.UserState.TheVariants as user

abbrev pub state_value : CallState → ℕ
state_value call.Null = 0
state_value call.CallInitiated = 1
state_value call.OutgoingCallProceeding = 3
state_value call.CallPresent = 6
state_value call.CallReceived = 7
state_value call.ConnectRequest = 8
state_value call.IncomingCallProceeding = 9
state_value call.Active = 10
state_value call.DisconnectRequest = 11
state_value call.DisconnectIndication = 12
state_value call.ReleaseRequest = 19

abbrev pub net_state : NetState → CallState
net_state net.OutgoingCallProceeding = call.OutgoingCallProceeding
net_state (net.CallPresent offer due) = call.CallPresent
net_state (net.IncomingCallProceeding due) = call.IncomingCallProceeding
net_state (net.CallReceived due) = call.CallReceived
net_state net.Active = call.Active
net_state (net.Enquiring asked due) = call.Active
net_state (net.DisconnectIndication cause due) = call.DisconnectIndication
net_state (net.ReleaseRequest sent cause due) = call.ReleaseRequest

abbrev pub user_state : UserState → CallState
user_state (user.CallInitiated again due) = call.CallInitiated
user_state (user.OutgoingCallProceeding due) = call.OutgoingCallProceeding
user_state user.CallPresent = call.CallPresent
user_state user.CallReceived = call.CallReceived
user_state (user.ConnectRequest due) = call.ConnectRequest
user_state user.IncomingCallProceeding = call.IncomingCallProceeding
user_state (user.Active since) = call.Active
user_state (user.DisconnectRequest cause due) = call.DisconnectRequest
user_state (user.ReleaseRequest sent cause due) = call.ReleaseRequest
