-- What the far end does with any octets on a live line: as in a rehearsal, but a call that its script answers after 0 seconds is answered
-- when it is offered, and not at the next tick.
use Rattle.std.specs.Prelude.{ℕ, ◌==◌, Bool, false, List, Option, Some, None, Result, Ok, Err, if◌then◌else◌}
use Rattle.bx_q931.specs.Messages.{PlainMessage, message_at}
use Rattle.bx_q931.specs.Values.{called_of}
use Rattle.bx_q931.specs.declared.fault.MessageFault.{MessageFault}
use Rattle.bx_q931.specs.declared.reference.Reference.{Reference}
use Rattle.bx_q931.specs.declared.reference.Reference.TheVariants.{Dummy, Value}
use Rattle.bx_calls.specs.PlainCalls.{PlainUserCall}
use Rattle.bx_calls.specs.Said.{Said, said_of}
use Rattle.bx_calls.specs.Sending.{Answered, unchanged}
use Rattle.bx_calls.specs.UserTable.{user_second}
use Rattle.bx_calls.specs.declared.user_state.Policy.{Policy}
use Rattle.bx_calls.specs.declared.user_state.Policy.TheVariants.{Answer}
use Rattle.bx_far.specs.FarDay.{FarDay, first_call, far_names, far_follow, far_stray, far_received_by}
use Rattle.bx_far.specs.Policies.{policy_of}

-- whether a call of this policy is answered when it is offered
abbrev pub is_at_once : Policy → Bool
is_at_once (Answer n) = n == 0
is_at_once policy = false

-- after what was done, the first tick of the call at the present moment; where there is no call, that is all
abbrev pub far_ticks_now : Answered FarDay → Option PlainUserCall → Answered FarDay
far_ticks_now done None = done
far_ticks_now done (Some call) = far_follow done.day call.channel (user_second call done.day.moment)

-- after what was done for a message that named no live call: one that it names now is the one that it offered
abbrev pub far_offered_live : Said → Policy → Answered FarDay → Answered FarDay
far_offered_live m policy done = if is_at_once policy then far_ticks_now done (first_call (far_names m) done.day.calls) else done

abbrev pub far_received_live : FarDay → Said → Option (List ℕ) → Option PlainUserCall → Answered FarDay
far_received_live d m called None = far_offered_live m (policy_of d.script called) (far_stray d m called m.heard.kind)
far_received_live d m called (Some call) = far_received_by d m called (Some call)

-- a message that was read, with neither the dummy nor the global reference, and the number that it calls
abbrev pub far_receive_live : FarDay → Said → Option (List ℕ) → Answered FarDay
far_receive_live d m called = far_received_live d m called (first_call (far_names m) d.calls)

-- a message that was read; the dummy and the global reference are ignored
abbrev pub far_receive_live_from : FarDay → PlainMessage → Reference → Answered FarDay
far_receive_live_from d m Dummy = unchanged d None
far_receive_live_from d m (Value value flag) = if value == 0 then unchanged d None else far_receive_live d (said_of value flag m) (called_of m)

abbrev pub far_receive_live_read : FarDay → Result PlainMessage MessageFault → Answered FarDay
far_receive_live_read d (Err fault) = unchanged d None
far_receive_live_read d (Ok m) = far_receive_live_from d m m.reference

-- any octets
abbrev pub far_receive_live_octets : FarDay → List ℕ → Answered FarDay
far_receive_live_octets d octets = far_receive_live_read d (message_at octets)
