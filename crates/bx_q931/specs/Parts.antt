-- The parts of a message that was sent, as its reader finds them.
use Rattle.std.specs.Prelude.{◌≡◌, ℕ, Bool, [], if◌then◌else◌, Option, Some, None, option_map}
use Rattle.bx_q931.specs.Messages.{PlainMessage}
use Rattle.bx_q931.specs.Values.{first_of, cause_of, state_of, channel_element_of, called_of}
use Rattle.bx_q931.specs.Outgoing.{Outgoing, bearer_contents}
use Rattle.bx_q931.specs.declared.channel_field.ChannelField.{ChannelField}
use Rattle.bx_q931.specs.declared.channel_field.ChannelField.TheVariants.{Absent, Named}
use Rattle.bx_q931.specs.declared.reference.Reference.TheVariants.{Value}

abbrev pub channel_part : Option (ℕ × Bool) → ChannelField
channel_part None = Absent
channel_part (Some c) = Named c.0 c.1

-- the message has the parts: the reference and its flag, the type, and each element where it was set
pub record HasParts (m : PlainMessage) (o : Outgoing) : Type 0 where
  pub reference : m.reference ≡ Value o.reference o.flag
  pub kind : m.kind ≡ o.kind
  pub sending_complete : first_of 0xA1 m ≡ (if o.sending_complete then Some [] else None)
  pub bearer : first_of 0x04 m ≡ (if o.bearer then Some bearer_contents else None)
  pub cause : cause_of m ≡ option_map (λ c. c.1) o.cause
  pub state : state_of m ≡ o.state
  pub channel : channel_element_of m ≡ channel_part o.channel
  pub called : called_of m ≡ o.called
