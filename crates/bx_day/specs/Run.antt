-- A run: the events of a day, one after another.
use Rattle.std.specs.Prelude.{ℕ, ◌==◌, List, [], ◌∷◌, ◌++◌, None, Result, Ok, Err, if◌then◌else◌}
use Rattle.bx_events.specs.Events.{Event, Tick, Receive}
use Rattle.bx_q931.specs.Messages.{PlainMessage, message_at}
use Rattle.bx_q931.specs.declared.fault.MessageFault.{MessageFault}
use Rattle.bx_q931.specs.declared.reference.Reference.{Reference}
use Rattle.bx_q931.specs.declared.reference.Reference.TheVariants.{Dummy, Value}
use Rattle.bx_q931.specs.Outgoing.{Outgoing}
use Rattle.bx_calls.specs.Said.{said_under}
use Rattle.bx_events.specs.declared.rules.Rules.{Rules}
use Rattle.bx_events.specs.declared.rules.Rules.TheVariants.{Three}
use Rattle.bx_day.specs.Day.{Day}
use Rattle.bx_day.specs.Ticks.{tick}
use Rattle.bx_day.specs.Receipts.{receive}
use Rattle.bx_calls.specs.Sending.{Sent, Answered, unchanged, reply_list}

-- a message that was read; the dummy and the global reference are ignored
abbrev pub receive_from : Rules → Day → PlainMessage → Reference → Answered Day
receive_from rules d m Dummy = unchanged d None
receive_from rules d m (Value value flag) = if value == 0 then unchanged d None else receive d (said_under rules value flag m)

abbrev pub receive_read : Rules → Day → Result PlainMessage MessageFault → Answered Day
receive_read rules d (Err fault) = unchanged d None
receive_read rules d (Ok m) = receive_from rules d m m.reference

-- any octets
abbrev pub receive_octets_by : Rules → Day → List ℕ → Answered Day
receive_octets_by rules d octets = receive_read rules d (message_at octets)

abbrev pub receive_octets : Day → List ℕ → Answered Day
receive_octets d octets = receive_octets_by Three d octets

abbrev pub happens : Day → Event → Sent Day
happens d Tick = tick d
happens d (Receive octets) = record { day = (receive_octets d octets).day; sent = reply_list (receive_octets d octets).reply }

abbrev pub day_after : List Event → Day → Day
day_after [] d = d
day_after (e ∷ es) d = day_after es (happens d e).day

abbrev pub sent_over : List Event → Day → List Outgoing
sent_over [] d = []
sent_over (e ∷ es) d = (happens d e).sent ++ sent_over es (happens d e).day
