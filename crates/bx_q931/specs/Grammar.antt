-- The grammar of a message (ITU-T Q.931, 4.1 to 4.5), apart from any order of reading: at most `MAX_MESSAGE` octets,
-- the protocol discriminator 8, the call reference with its length, the message type, and whole items.
use Rattle.std.specs.Prelude.{◌≡◌, ◌≢◌, ℕ, ◌<◌, ◌≤◌, ◌/◌, ◌%◌, ◌⊎◌, List, [], ◌∷◌, ◌++◌, length, All}
use Rattle.std.specs.List.{flat_map}
use Rattle.bx_q931.specs.Items.{PlainItem, IsItem, item_octets}
use Rattle.bx_q931.specs.Kinds.{kind_of}
use Rattle.bx_q931.specs.References.{reference_of}
use Rattle.bx_q931.specs.Messages.{PlainMessage}
use Rattle.bx_q931.specs.declared.fault.MessageFault.{MessageFault}
use Rattle.bx_q931.specs.declared.fault.MessageFault.TheVariants.{TooShort, NotQ931, BadCallReference, TornElement, TooLong}
use Rattle.bx_q931.specs.declared.reading.TheConstants.{MAX_MESSAGE}

-- octets that are items, and those items
pub record AreItems (octets : List ℕ) (items : List PlainItem) : Type 0 where
  pub spelled : octets ≡ flat_map item_octets items
  pub each : All IsItem items

-- octets that are this message, with these octets of its reference and of its type
pub record IsSpelled (octets reference : List ℕ) (type_octet : ℕ) (m : PlainMessage) : Type 0 where
  pub few : length octets ≤ MAX_MESSAGE
  pub short : length reference ≤ 2
  pub spelled : octets ≡ 8 ∷ length reference ∷ reference ++ type_octet ∷ flat_map item_octets m.items
  pub each : All IsItem m.items
  pub reference_is : m.reference ≡ reference_of reference
  pub kind_is : m.kind ≡ kind_of type_octet

abbrev pub IsMessage : List ℕ → PlainMessage → Type 0
IsMessage octets m = (reference : List ℕ) × (type_octet : ℕ) × IsSpelled octets reference type_octet m

-- ---- the faults of octets that are no message, in the order in which they count

-- octet 2: bits 8 to 5 are zero, and bits 4 to 1 are the length of the reference
abbrev pub IsBadLength : ℕ → Type 0
IsBadLength octet = (0 < octet / 16) ⊎ (2 < octet % 16)

-- the octets end before the type: at once, after the discriminator, or in the reference or right after it
abbrev pub EndsEarly : List ℕ → Type 0
EndsEarly octets =
    (octets ≡ []) ⊎ (octets ≡ 8 ∷ [])
    ⊎ ((len : ℕ) × (rest : List ℕ) × (octets ≡ 8 ∷ len ∷ rest) × ¬ IsBadLength len × (length rest ≤ len))

abbrev pub IsNotQ931 : List ℕ → Type 0
IsNotQ931 octets = (first : ℕ) × (rest : List ℕ) × (octets ≡ first ∷ rest) × (first ≢ 8)

abbrev pub HasBadLength : List ℕ → Type 0
HasBadLength octets = (len : ℕ) × (rest : List ℕ) × (octets ≡ 8 ∷ len ∷ rest) × IsBadLength len

-- up to the type all is well, and what follows is no list of items
abbrev pub IsTornMessage : List ℕ → Type 0
IsTornMessage octets =
    (reference : List ℕ) × (type_octet : ℕ) × (rest : List ℕ)
    × (octets ≡ 8 ∷ length reference ∷ reference ++ type_octet ∷ rest)
    × (length reference ≤ 2) × ((items : List PlainItem) → ¬ AreItems rest items)

-- the one fault of octets that are no message: one of too many octets comes before all others
abbrev pub IsMessageFaultOf : List ℕ → MessageFault → Type 0
IsMessageFaultOf octets TooLong = MAX_MESSAGE < length octets
IsMessageFaultOf octets TooShort = (length octets ≤ MAX_MESSAGE) × EndsEarly octets
IsMessageFaultOf octets NotQ931 = (length octets ≤ MAX_MESSAGE) × IsNotQ931 octets
IsMessageFaultOf octets BadCallReference = (length octets ≤ MAX_MESSAGE) × HasBadLength octets
IsMessageFaultOf octets TornElement = (length octets ≤ MAX_MESSAGE) × IsTornMessage octets
