-- The day of the far end: what its script says, its live calls in rising order of channel, and the channels in
-- maintenance.
use Rattle.std.specs.Prelude.{ℕ, ◌+◌, ◌==◌, nat_le, nat_lt, ◌&&◌, ◌||◌, not, Bool, true, List, [], ◌∷◌, Option, Some, None, if◌then◌else◌, is_some, slice_set, replicate, map}
use Rattle.bx_q931.specs.declared.kind.Kind.{Kind}
use Rattle.bx_q931.specs.declared.kind.Kind.TheVariants.{Setup}
use Rattle.bx_q931.specs.declared.channel_field.ChannelField.{ChannelField}
use Rattle.bx_q931.specs.declared.channel_field.ChannelField.TheVariants.{Absent, Named, AnyChannel, Unread}
use Rattle.bx_q931.specs.Outgoing.{Outgoing}
use Rattle.bx_calls.specs.Shared.{no_channel, bool_eq}
use Rattle.bx_channels.specs.Marks.{is_marked}
use Rattle.bx_calls.specs.declared.transition.Transition.{Transition}
use Rattle.bx_calls.specs.declared.transition.Next.{Next}
use Rattle.bx_calls.specs.declared.transition.Next.TheVariants.{Live, Over, Broken}
use Rattle.bx_calls.specs.declared.user_state.Policy.{Policy}
use Rattle.bx_calls.specs.declared.user_state.Policy.TheVariants.{Busy, Silent}
use Rattle.bx_calls.specs.declared.unknown_reference.Side.TheVariants.{User}
use Rattle.bx_calls.specs.PlainCalls.{PlainUserCall}
use Rattle.bx_calls.specs.Said.{Said}
use Rattle.bx_calls.specs.Saying.{setup_of}
use Rattle.bx_calls.specs.UnknownTable.{refusal_of, unknown_row}
use Rattle.bx_calls.specs.UserTable.{user_flag, user_second, user_message, user_offered, user_calling, user_unlinked}
use Rattle.bx_far.specs.Policies.{policy_of}
use Rattle.bx_far.specs.declared.row.ScriptRow.{ScriptRow}
use Rattle.bx_far.specs.declared.row.ScriptRow.TheVariants.{Follows, Calls}
use Rattle.bx_calls.specs.Sending.{Sent, Answered, unchanged, in_order}
use Rattle.bx_events.specs.declared.moment.TheConstants.{LAST_MOMENT}

pub record FarDay : Type 0 where
  pub script : List ScriptRow
  pub moment : ℕ
  pub calls : List PlainUserCall
  pub maintenance : List Bool
  -- the reference of the next call that it begins
  pub next : ℕ

-- ---- calls in rising order of channel

-- the first call that passes
abbrev pub first_call : (PlainUserCall → Bool) → List PlainUserCall → Option PlainUserCall
first_call test [] = None
first_call test (call ∷ calls) = if test call then Some call else first_call test calls

abbrev pub is_on : ℕ → PlainUserCall → Bool
is_on c call = call.channel == c

-- the call that holds a channel
abbrev pub holder : FarDay → ℕ → Option PlainUserCall
holder d c = first_call (is_on c) d.calls

-- held or in maintenance
abbrev pub is_taken : FarDay → ℕ → Bool
is_taken d c = is_some (holder d c) || is_marked d.maintenance c

-- a new call is put where its channel stands among the others
abbrev pub insert_call : PlainUserCall → List PlainUserCall → List PlainUserCall
insert_call new [] = new ∷ []
insert_call new (call ∷ calls) = if nat_lt new.channel call.channel then new ∷ call ∷ calls else call ∷ insert_call new calls

-- what became of a call, before the others
abbrev pub next_then : Next PlainUserCall → List PlainUserCall → List PlainUserCall
next_then (Live call) rest = call ∷ rest
next_then Over rest = rest
next_then Broken rest = rest

-- the calls when this became of the one on the channel
abbrev pub settle_calls : ℕ → Next PlainUserCall → List PlainUserCall → List PlainUserCall
settle_calls c next [] = []
settle_calls c next (call ∷ calls) = if call.channel == c then next_then next calls else call ∷ settle_calls c next calls

-- and the channels in maintenance
abbrev pub settle_maintenance : ℕ → Next PlainUserCall → List Bool → List Bool
settle_maintenance c Broken maintenance = slice_set maintenance c true
settle_maintenance c next maintenance = maintenance

-- ---- a tick: what is sent stands by the number of its channel, and so goes in rising order of channel

abbrev pub no_messages : List (Option Outgoing)
no_messages = replicate 32 None

-- the calls that were live, at a tick to moment t
abbrev pub second_calls : ℕ → List PlainUserCall → List PlainUserCall
second_calls t [] = []
second_calls t (call ∷ calls) = next_then (user_second call t).next (second_calls t calls)

abbrev pub second_maintenance : ℕ → List PlainUserCall → List Bool → List Bool
second_maintenance t [] maintenance = maintenance
second_maintenance t (call ∷ calls) maintenance = second_maintenance t calls (settle_maintenance call.channel (user_second call t).next maintenance)

abbrev pub second_said : ℕ → List PlainUserCall → List (Option Outgoing) → List (Option Outgoing)
second_said t [] said = said
second_said t (call ∷ calls) said = second_said t calls (slice_set said call.channel (user_second call t).reply)

-- the channels of these calls too
abbrev pub with_held : List PlainUserCall → List Bool → List Bool
with_held [] channels = channels
with_held (call ∷ calls) channels = with_held calls (slice_set channels call.channel true)

-- rows that call, row by row: the calls, what is said, the channels that are not called on, and the next reference
pub record Begun : Type 0 where
  pub calls : List PlainUserCall
  pub said : List (Option Outgoing)
  pub blocked : List Bool
  pub next : ℕ

abbrev pub begin_call : ℕ → List ℕ → ℕ → Begun → Begun
begin_call t number c b = record {
  calls = insert_call (user_calling b.next c number t) b.calls;
  said = slice_set b.said c (Some (setup_of b.next c number));
  blocked = slice_set b.blocked c true;
  next = b.next + 1;
}

-- a row that may not call at its moment never does, and uses no reference
abbrev pub begin_row : ℕ → ScriptRow → Begun → Begun
begin_row t (Follows number policy) b = b
begin_row t (Calls number moment c) b = if (moment == t) && not (is_marked b.blocked c) then begin_call t number c b else b

abbrev pub begin_rows : ℕ → List ScriptRow → Begun → Begun
begin_rows t [] b = b
begin_rows t (row ∷ rows) b = begin_rows t rows (begin_row t row b)

-- channels that were held or in maintenance before the tick are not called on
abbrev pub far_begun : FarDay → ℕ → Begun
far_begun d t = begin_rows t d.script (record {
  calls = second_calls t d.calls;
  said = second_said t d.calls no_messages;
  blocked = with_held d.calls d.maintenance;
  next = d.next;
})

abbrev pub far_after : FarDay → ℕ → Begun → Sent FarDay
far_after d t b = record {
  day = record d { moment = t; calls = b.calls; maintenance = second_maintenance t d.calls d.maintenance; next = b.next };
  sent = in_order b.said;
}

abbrev pub far_ticked : FarDay → Sent FarDay
far_ticked d = far_after d (d.moment + 1) (far_begun d (d.moment + 1))

abbrev pub far_tick : FarDay → Sent FarDay
far_tick d = if nat_le LAST_MOMENT d.moment then record { day = d; sent = [] } else far_ticked d

-- ---- a second without a link to the exchange: no timer runs, no row calls, and nothing is said

abbrev pub far_unlinked : FarDay → FarDay
far_unlinked d = record d { moment = d.moment + 1; calls = map (user_unlinked (d.moment + 1)) d.calls }

abbrev pub far_without_link : FarDay → FarDay
far_without_link d = if nat_le LAST_MOMENT d.moment then d else far_unlinked d

-- ---- a receipt

-- whether a message names this call: flag 0 names calls that the network began
abbrev pub far_names : Said → PlainUserCall → Bool
far_names m call = (call.reference == m.reference) && bool_eq (user_flag call.origin) (not m.flag)

-- a call took this step
abbrev pub far_follow : FarDay → ℕ → Transition PlainUserCall → Answered FarDay
far_follow d c step = record {
  day = record d { calls = settle_calls c step.next d.calls; maintenance = settle_maintenance c step.next d.maintenance };
  reply = step.reply;
}

abbrev pub far_refuses : FarDay → Said → ℕ → Answered FarDay
far_refuses d m cause = unchanged d (Some (refusal_of User m.reference true cause))

-- a SETUP that is not refused for what it asks, by the policy of its number
abbrev pub far_takes : FarDay → Said → ℕ → Policy → Answered FarDay
far_takes d m c Silent = unchanged d None
far_takes d m c Busy = far_refuses d m 17
far_takes d m c policy = record { day = record d { calls = insert_call (user_offered m.reference c policy d.moment) d.calls }; reply = None }

-- a SETUP with a good bearer capability, by its channel identification
abbrev pub far_called_on : FarDay → Said → Option (List ℕ) → ChannelField → Answered FarDay
far_called_on d m called Absent = far_refuses d m 96
far_called_on d m called AnyChannel = far_refuses d m 44
far_called_on d m called Unread = far_refuses d m 44
far_called_on d m called (Named c exclusive) = if is_taken d c then far_refuses d m 44 else far_takes d m c (policy_of d.script called)

-- a SETUP that begins a call, by the cause with which its bearer capability is refused, if any
abbrev pub far_called : FarDay → Said → Option (List ℕ) → Option ℕ → Answered FarDay
far_called d m called (Some cause) = far_refuses d m cause
far_called d m called None = far_called_on d m called m.heard.channel

-- a message that names no live call
abbrev pub far_stray : FarDay → Said → Option (List ℕ) → Kind → Answered FarDay
far_stray d m called Setup = if m.flag then unchanged d None else far_called d m called m.refused
far_stray d m called kind = unchanged d (unknown_row User m.reference (not m.flag) m.heard kind)

abbrev pub far_received_by : FarDay → Said → Option (List ℕ) → Option PlainUserCall → Answered FarDay
far_received_by d m called None = far_stray d m called m.heard.kind
far_received_by d m called (Some call) = far_follow d call.channel (user_message call m.heard d.moment)

-- a message that was read, with neither the dummy nor the global reference, and the number that it calls
abbrev pub far_receive : FarDay → Said → Option (List ℕ) → Answered FarDay
far_receive d m called = far_received_by d m called (first_call (far_names m) d.calls)

abbrev pub far_opening : List ScriptRow → FarDay
far_opening script = record { script = script; moment = 0; calls = []; maintenance = no_channel; next = 1 }
