-- What the call tables see of a message.
use Rattle.std.specs.Prelude.{ℕ, ◌==◌, ◌||◌, Bool, true, false, Option, Some, None}
use Rattle.bx_events.specs.declared.rules.Rules.{Rules}
use Rattle.bx_events.specs.declared.rules.Rules.TheVariants.{Two, Three}
use Rattle.bx_q931.specs.Messages.{PlainMessage}
use Rattle.bx_q931.specs.Values.{channel_element_of, cause_of, state_of}
use Rattle.bx_q931.specs.declared.kind.Kind.{Kind}
use Rattle.bx_q931.specs.declared.channel_field.ChannelField.{ChannelField}
use Rattle.bx_q931.specs.declared.channel_field.ChannelField.TheVariants.{Absent, Named, AnyChannel, Unread}

-- its type, what it says of a channel, its cause, the call state that it reports, and the rules by which it is heard
pub record Heard : Type 0 where
  pub kind : Kind
  pub channel : ChannelField
  pub cause : Option ℕ
  pub state : Option ℕ
  pub rules : Rules

abbrev pub heard_under : Rules → PlainMessage → Heard
heard_under rules m = record { kind = m.kind; channel = channel_element_of m; cause = cause_of m; state = state_of m; rules = rules }

abbrev pub heard_of : PlainMessage → Heard
heard_of m = heard_under Three m

-- the rules are 3
abbrev pub is_by_three : Rules → Bool
is_by_three Two = false
is_by_three Three = true

-- the channel identification is absent or names this channel
abbrev pub names_channel : ChannelField → ℕ → Bool
names_channel Absent channel = true
names_channel (Named n exclusive) channel = n == channel
names_channel AnyChannel channel = false
names_channel Unread channel = false

-- a call state that can be read, and is Null
abbrev pub reports_null : Option ℕ → Bool
reports_null None = false
reports_null (Some n) = n == 0

-- the user has no call of this reference: invalid call reference value
abbrev pub lacks_call : Option ℕ → Bool
lacks_call None = false
lacks_call (Some n) = n == 81

-- a cause that passes: temporary failure, congestion, channel not available, resource unavailable, recovery on timer expiry
abbrev pub is_passing : Option ℕ → Bool
is_passing None = false
is_passing (Some n) = n == 41 || (n == 42 || (n == 44 || (n == 47 || n == 102)))
