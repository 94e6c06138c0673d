-- What the exchange does with a message that was read.
use Rattle.std.specs.Prelude.{ℕ, ◌==◌, ◌&&◌, not, Bool, true, false, List, [], ◌∷◌, Option, Some, None, if◌then◌else◌, slice_set}
use Rattle.std.specs.List.{position}
use Rattle.bx_q931.specs.declared.kind.Kind.{Kind}
use Rattle.bx_q931.specs.declared.kind.Kind.TheVariants.{Setup}
use Rattle.bx_q931.specs.declared.channel_field.ChannelField.{ChannelField}
use Rattle.bx_q931.specs.declared.channel_field.ChannelField.TheVariants.{Absent, Named, AnyChannel, Unread}
use Rattle.bx_calls.specs.Shared.{bool_eq}
use Rattle.bx_calls.specs.NetTable.{net_message, net_flag, net_answered, proceeding_of}
use Rattle.bx_calls.specs.UnknownTable.{refusal_of, unknown_row}
use Rattle.bx_calls.specs.declared.unknown_reference.Side.TheVariants.{Network}
use Rattle.bx_day.specs.declared.entry.Activity.TheVariants.{Never}
use Rattle.bx_day.specs.declared.entry.Standing.{Standing}
use Rattle.bx_day.specs.declared.entry.Standing.TheVariants.{OnCall}
use Rattle.bx_day.specs.declared.entry.Entry.{Entry}
use Rattle.bx_day.specs.declared.entry.Moved.{Moved}
use Rattle.bx_base.specs.Bookings.{is_running}
use Rattle.bx_calls.specs.Said.{Said}
use Rattle.bx_calls.specs.Sending.{Answered, unchanged}
use Rattle.bx_day.specs.Moves.{becomes, stays, follows}
use Rattle.bx_day.specs.Day.{Day, every_channel, is_free, is_unoffered, entry_at}

-- whether a message names this live booking: flag 1 names calls that the exchange began
abbrev pub names_call : Said → Standing → Bool
names_call m (OnCall call activity) = (call.reference == m.reference) && bool_eq (net_flag call.origin) (not m.flag)
names_call m _ = false

abbrev pub names : Said → Entry → Bool
names m e = names_call m e.standing

-- an inward booking that was never live, runs now, and whose channel is neither held nor in maintenance
abbrev pub is_open : Day → Entry → Bool
is_open d e = is_unoffered e.standing && e.booking.inward && is_running e.booking d.moment && is_free d e.channel

abbrev pub opens : Day → ℕ → Entry → Bool
opens d c e = is_open d e && (e.channel == c)

abbrev pub or_else : Option ℕ → Option ℕ → Option ℕ
or_else (Some i) o = Some i
or_else None o = o

-- the index of the booking of the lowest open channel among these
abbrev pub lowest_open : Day → List ℕ → Option ℕ
lowest_open d [] = None
lowest_open d (c ∷ cs) = or_else (position (opens d c) d.entries) (lowest_open d cs)

-- the booking of index i did this
abbrev pub with_moved : Day → ℕ → Moved → Answered Day
with_moved d i m = record {
  day = record d {
    entries = slice_set d.entries i (record (entry_at d.entries i) { standing = m.standing });
    maintenance = if m.broken then slice_set d.maintenance (entry_at d.entries i).channel true else d.maintenance;
  };
  reply = m.said;
}

abbrev pub hears : Said → ℕ → Standing → Moved
hears m t (OnCall call activity) = follows activity t (net_message call m.heard t)
hears m t s = stays s

-- an inward booking is called
abbrev pub takes_call : Said → Entry → Moved
takes_call m e = becomes (OnCall (net_answered m.reference e.channel) Never) (Some (proceeding_of m.reference e.channel))

abbrev pub takes_or : Day → Said → ℕ → Option ℕ → Answered Day
takes_or d m cause None = unchanged d (Some (refusal_of Network m.reference true cause))
takes_or d m cause (Some i) = with_moved d i (takes_call m (entry_at d.entries i))

abbrev pub takes_preferred : Day → Said → Option ℕ → Answered Day
takes_preferred d m None = takes_or d m 34 (lowest_open d every_channel)
takes_preferred d m (Some i) = takes_or d m 34 (Some i)

-- a SETUP with a good bearer capability, by its channel identification
abbrev pub called_on : Day → Said → ChannelField → Answered Day
called_on d m Unread = unchanged d (Some (refusal_of Network m.reference true 44))
called_on d m (Named c true) = takes_or d m 44 (position (opens d c) d.entries)
called_on d m (Named c false) = takes_preferred d m (position (opens d c) d.entries)
called_on d m Absent = takes_or d m 34 (lowest_open d every_channel)
called_on d m AnyChannel = takes_or d m 34 (lowest_open d every_channel)

-- a SETUP that begins a call, by the cause with which its bearer capability is refused, if any
abbrev pub called : Day → Said → Option ℕ → Answered Day
called d m (Some cause) = unchanged d (Some (refusal_of Network m.reference true cause))
called d m None = called_on d m m.heard.channel

-- a message that names no live booking
abbrev pub stray : Day → Said → Kind → Answered Day
stray d m Setup = if m.flag then unchanged d None else called d m m.refused
stray d m kind = unchanged d (unknown_row Network m.reference (not m.flag) m.heard kind)

abbrev pub received_at : Day → Said → Option ℕ → Answered Day
received_at d m None = stray d m m.heard.kind
received_at d m (Some i) = with_moved d i (hears m d.moment (entry_at d.entries i).standing)

-- a message that was read, with neither the dummy nor the global reference
abbrev pub receive : Day → Said → Answered Day
receive d m = received_at d m (position (names m) d.entries)
