-- A message that is sent, by its parts, and the octets that it is written as (ITU-T Q.931, 4.1 to 4.5).
use Rattle.std.specs.Prelude.{ℕ, ◌+◌, ◌/◌, ◌%◌, ◌<◌, ◌≤◌, Bool, false, List, [], ◌∷◌, ◌++◌, if◌then◌else◌, Option, Some, None, option_map, IfSome}
use Rattle.std.specs.List.{flat_map}
use Rattle.bx_q931.specs.Items.{PlainItem, plain_item, item_octets}
use Rattle.bx_q931.specs.Kinds.{IsNamed, octet_of}
use Rattle.bx_q931.specs.Messages.{PlainMessage, plain_message}
use Rattle.bx_q931.specs.declared.kind.Kind.{Kind}
use Rattle.bx_q931.specs.declared.reference.Reference.TheVariants.{Value}

-- a cause is the location that gives it and its value; a channel is its number and whether no other will do
pub record Outgoing : Type 0 where
  pub reference : ℕ
  pub flag : Bool
  pub kind : Kind
  pub sending_complete : Bool
  pub bearer : Bool
  pub cause : Option (ℕ × ℕ)
  pub state : Option ℕ
  pub channel : Option (ℕ × Bool)
  pub called : Option (List ℕ)

-- a message with no element
abbrev pub plain : ℕ → Bool → Kind → Outgoing
plain reference flag kind = record {
  reference = reference;
  flag = flag;
  kind = kind;
  sending_complete = false;
  bearer = false;
  cause = None;
  state = None;
  channel = None;
  called = None;
}

-- a reference that names a call: not the global one
abbrev pub IsCallReference : ℕ → Type 0
IsCallReference value = (1 ≤ value) × (value ≤ 32767)

-- what can be sent: each part within its bits
pub record IsOutgoing (o : Outgoing) : Type 0 where
  pub reference : IsCallReference o.reference
  pub kind : IsNamed o.kind
  pub cause : IfSome o.cause (λ c. (c.0 < 16) × (c.1 < 128))
  pub state : IfSome o.state (λ state. state < 64)

-- ---- the contents of the elements

-- bit 8 of octets 3 and 4 ends each; coding standard ITU-T
abbrev pub cause_contents : ℕ × ℕ → List ℕ
cause_contents c = (0x80 + c.0) ∷ (0x80 + c.1) ∷ []

abbrev pub state_contents : ℕ → List ℕ
state_contents state = state ∷ []

-- interface implicit, other than basic, the channel that follows; a number in B-channel units
abbrev pub channel_contents : ℕ × Bool → List ℕ
channel_contents c = (if c.1 then 0xA9 else 0xA1) ∷ 0x83 ∷ (0x80 + c.0) ∷ []

-- type of number unknown, ISDN numbering plan
abbrev pub called_contents : List ℕ → List ℕ
called_contents digits = 0x81 ∷ digits

-- unrestricted digital information; circuit mode, 64 kbit/s
abbrev pub bearer_contents : List ℕ
bearer_contents = 0x88 ∷ 0x90 ∷ []

-- the elements by identifier, and the contents of those that are there: sending complete, which is one
-- octet, then bearer capability, cause, call state, channel identification and called party number
abbrev pub table_of : Outgoing → List (ℕ × Option (List ℕ))
table_of o =
    (0xA1, if o.sending_complete then Some [] else None)
    ∷ (0x04, if o.bearer then Some bearer_contents else None)
    ∷ (0x08, option_map cause_contents o.cause)
    ∷ (0x14, option_map state_contents o.state)
    ∷ (0x18, option_map channel_contents o.channel)
    ∷ (0x70, option_map called_contents o.called)
    ∷ []

-- an item, where there are contents
abbrev pub optional_item : ℕ → Option (List ℕ) → List PlainItem
optional_item id None = []
optional_item id (Some contents) = plain_item id contents ∷ []

abbrev pub items_of_table : List (ℕ × Option (List ℕ)) → List PlainItem
items_of_table table = flat_map (λ p. optional_item p.0 p.1) table

abbrev pub out_items : Outgoing → List PlainItem
out_items o = items_of_table (table_of o)

-- ---- the octets

-- discriminator, a reference of two octets (profile), and the type
abbrev pub header_octets : ℕ → Bool → Kind → List ℕ
header_octets reference flag kind =
    8 ∷ 2 ∷ ((if flag then 0x80 else 0) + reference / 256) ∷ reference % 256 ∷ octet_of kind ∷ []

abbrev pub out_octets : Outgoing → List ℕ
out_octets o = header_octets o.reference o.flag o.kind ++ flat_map item_octets (out_items o)

-- the message that the octets are
abbrev pub message_of : Outgoing → PlainMessage
message_of o = plain_message (Value o.reference o.flag) o.kind (out_items o)
