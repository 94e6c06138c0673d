-- A message by its parts, and the reading of it as a function: what the octets give, or their first fault.
use Rattle.std.specs.Prelude.{ℕ, ◌==◌, nat_lt, nat_le, List, [], ◌∷◌, length, take, drop, if◌then◌else◌, Option, Some, None, Result, Ok, Err}
use Rattle.bx_q931.specs.Items.{PlainItem, all_items}
use Rattle.bx_q931.specs.Kinds.{kind_of}
use Rattle.bx_q931.specs.References.{reference_of}
use Rattle.bx_q931.specs.declared.kind.Kind.{Kind}
use Rattle.bx_q931.specs.declared.reference.Reference.{Reference}
use Rattle.bx_q931.specs.declared.fault.MessageFault.{MessageFault}
use Rattle.bx_q931.specs.declared.fault.MessageFault.TheVariants.{TooShort, NotQ931, BadCallReference, TornElement, TooLong}
use Rattle.bx_q931.specs.declared.reading.TheConstants.{MAX_MESSAGE}

pub record PlainMessage : Type 0 where
  pub reference : Reference
  pub kind : Kind
  pub items : List PlainItem

abbrev pub plain_message : Reference → Kind → List PlainItem → PlainMessage
plain_message reference kind items = record { reference = reference; kind = kind; items = items }

-- with its items, if they are whole
abbrev pub whole_message : Reference → Kind → Option (List PlainItem) → Result PlainMessage MessageFault
whole_message reference kind None = Err TornElement
whole_message reference kind (Some items) = Ok (plain_message reference kind items)

-- after the reference: the type, and the items
abbrev pub kind_at : Reference → List ℕ → Result PlainMessage MessageFault
kind_at reference [] = Err TooShort
kind_at reference (octet ∷ rest) = whole_message reference (kind_of octet) (all_items rest)

-- after the length of the reference
abbrev pub body_at : ℕ → List ℕ → Result PlainMessage MessageFault
body_at len rest = if nat_le (length rest) len then Err TooShort else kind_at (reference_of (take len rest)) (drop len rest)

-- after the protocol discriminator
abbrev pub reference_at : List ℕ → Result PlainMessage MessageFault
reference_at [] = Err TooShort
reference_at (len ∷ rest) = if nat_lt 2 len then Err BadCallReference else body_at len rest

abbrev pub discriminated_at : List ℕ → Result PlainMessage MessageFault
discriminated_at [] = Err TooShort
discriminated_at (first ∷ rest) = if first == 8 then reference_at rest else Err NotQ931

abbrev pub message_at : List ℕ → Result PlainMessage MessageFault
message_at octets = if nat_lt MAX_MESSAGE (length octets) then Err TooLong else discriminated_at octets
