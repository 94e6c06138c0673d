-- When a tick may do something to a booking.
use Rattle.std.specs.Prelude.{ℕ, min, if◌then◌else◌}
use Rattle.bx_calls.specs.declared.net_state.NetState.{NetState}
use Rattle.bx_calls.specs.declared.net_state.NetState.TheVariants.{OutgoingCallProceeding, CallPresent, IncomingCallProceeding, CallReceived, Active, Enquiring, DisconnectIndication, ReleaseRequest}
use Rattle.bx_day.specs.declared.entry.Entry.{Entry}
use Rattle.bx_day.specs.declared.entry.Standing.{Standing}
use Rattle.bx_day.specs.declared.entry.Standing.TheVariants.{Unoffered, OnCall}

-- the first tick that may do something to a call of this state, whose booking has this end
abbrev pub call_due : NetState → ℕ → ℕ
call_due OutgoingCallProceeding end = 0
call_due (CallPresent again due) end = min due end
call_due (IncomingCallProceeding due) end = min due end
call_due (CallReceived due) end = min due end
call_due Active end = end
call_due (Enquiring asked due) end = min due end
call_due (DisconnectIndication cause due) end = due
call_due (ReleaseRequest again cause due) end = due

-- beyond each day
abbrev pub never : ℕ
never = 4294967295

-- the first tick that may do something to a booking
abbrev pub booking_due : Entry → Standing → ℕ
booking_due e (OnCall call activity) = call_due call.state e.booking.end
booking_due e Unoffered = if e.booking.inward then e.booking.end else e.booking.start
booking_due e s = never
