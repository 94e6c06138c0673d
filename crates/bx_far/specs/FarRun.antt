-- What the far end does with any octets, and its messages as they are sent.
use Rattle.std.specs.Prelude.{ℕ, ◌==◌, List, None, Result, Ok, Err, if◌then◌else◌}
use Rattle.bx_q931.specs.Messages.{PlainMessage, message_at}
use Rattle.bx_q931.specs.Values.{called_of}
use Rattle.bx_q931.specs.declared.fault.MessageFault.{MessageFault}
use Rattle.bx_q931.specs.declared.reference.Reference.{Reference}
use Rattle.bx_q931.specs.declared.reference.Reference.TheVariants.{Dummy, Value}
use Rattle.bx_calls.specs.Said.{said_of}
use Rattle.bx_far.specs.FarDay.{FarDay, far_receive}
use Rattle.bx_calls.specs.Sending.{Answered, unchanged}

-- a message that was read; the dummy and the global reference are ignored
abbrev pub far_receive_from : FarDay → PlainMessage → Reference → Answered FarDay
far_receive_from d m Dummy = unchanged d None
far_receive_from d m (Value value flag) = if value == 0 then unchanged d None else far_receive d (said_of value flag m) (called_of m)

abbrev pub far_receive_read : FarDay → Result PlainMessage MessageFault → Answered FarDay
far_receive_read d (Err fault) = unchanged d None
far_receive_read d (Ok m) = far_receive_from d m m.reference

-- any octets
abbrev pub far_receive_octets : FarDay → List ℕ → Answered FarDay
far_receive_octets d octets = far_receive_read d (message_at octets)
