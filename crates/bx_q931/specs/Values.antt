-- What the information elements of a message say (ITU-T Q.931, 4.5). Elements outside codeset 0 are
-- skipped, elements come in any order, and the first of a kind counts (profile). One with too few octets
-- to be read has no value.
use Rattle.std.specs.Prelude.{ℕ, ◌==◌, ◌%◌, ◌&&◌, not, nat_lt, nat_le, bit_and, Bool, true, List, [], ◌∷◌, length, drop, if◌then◌else◌, Option, Some, None}
use Rattle.std.specs.Char.{is_ascii_digit}
use Rattle.bx_q931.specs.Elements.{PlainElement, elements_of}
use Rattle.bx_q931.specs.Messages.{PlainMessage}
use Rattle.bx_q931.specs.declared.channel_field.ChannelField.{ChannelField}
use Rattle.bx_q931.specs.declared.channel_field.ChannelField.TheVariants.{Absent, Named, AnyChannel, Unread}

-- the contents of the first element in codeset 0 with this identifier
unfoldable pub first_in : ℕ → List PlainElement → Option (List ℕ)
first_in id [] = None
first_in id (e ∷ es) = if (e.codeset == 0) && (e.id == id) then Some e.contents else first_in id es

abbrev pub first_of : ℕ → PlainMessage → Option (List ℕ)
first_of id m = first_in id (elements_of m.items)

-- what the contents say, where the element is there
abbrev pub if_there : {A : Type 0} → (List ℕ → Option A) → Option (List ℕ) → Option A
if_there read None = None
if_there read (Some contents) = read contents

-- ---- cause (4.5.12): where bit 8 of octet 3 is zero one octet 3a is skipped, then the low 7 bits

abbrev pub low_7 : List ℕ → Option ℕ
low_7 [] = None
low_7 (o ∷ os) = Some (o % 128)

abbrev pub cause_in : List ℕ → Option ℕ
cause_in [] = None
cause_in (o ∷ os) = if nat_lt o 128 then low_7 (drop 1 os) else low_7 os

abbrev pub cause_of : PlainMessage → Option ℕ
cause_of m = if_there cause_in (first_of 0x08 m)

-- ---- call state (4.5.7): the low 6 bits of the first octet

abbrev pub state_in : List ℕ → Option ℕ
state_in [] = None
state_in (o ∷ os) = Some (o % 64)

abbrev pub state_of : PlainMessage → Option ℕ
state_of m = if_there state_in (first_of 0x14 m)

-- ---- called party number (4.5.8): the octets after the first, where they are 1 to 15 digits

unfoldable pub are_digits : List ℕ → Bool
are_digits [] = true
are_digits (o ∷ os) = is_ascii_digit o && are_digits os

abbrev pub is_number : List ℕ → Bool
is_number digits = nat_le 1 (length digits) && nat_le (length digits) 15 && are_digits digits

abbrev pub called_in : List ℕ → Option (List ℕ)
called_in [] = None
called_in (o ∷ os) = if is_number os then Some os else None

abbrev pub called_of : PlainMessage → Option (List ℕ)
called_of m = if_there called_in (first_of 0x70 m)

-- ---- channel identification (4.5.13)

abbrev pub has_bit : ℕ → ℕ → Bool
has_bit octet bit = not (bit_and octet bit == 0)

-- after the interface identifier, which ends with its first octet that has bit 8 set
unfoldable pub after_interface : List ℕ → List ℕ
after_interface [] = []
after_interface (o ∷ os) = if nat_lt o 128 then after_interface os else os

abbrev pub is_channel : ℕ → Bool
is_channel n = nat_le 1 n && nat_le n 31 && not (n == 16)

-- octet 3.2: a channel number in B-channel units; octet 3.3: the number (profile: octets after it are
-- not looked at)
abbrev pub numbered : Bool → List ℕ → ChannelField
numbered exclusive [] = Unread
numbered exclusive (o ∷ []) = Unread
numbered exclusive (o ∷ n ∷ os) =
    if (o == 0x83) && is_channel (n % 128) then Named (n % 128) exclusive else Unread

-- octet 3: bit 6 says other than basic interface, bit 3 the D channel; bits 2 to 1 are 11 for any channel
-- and 01 for the one that follows, bit 7 says that an interface identifier stands before it, and bit 4
-- that no other channel will do (profile: bit 8 is not looked at)
abbrev pub channel_in : List ℕ → ChannelField
channel_in [] = Unread
channel_in (o ∷ os) =
    if not (has_bit o 0x20) then Unread
    else if has_bit o 0x04 then Unread
    else if o % 4 == 3 then AnyChannel
    else if o % 4 == 1 then numbered (has_bit o 0x08) (if has_bit o 0x40 then after_interface os else os)
    else Unread

abbrev pub channel_if_there : Option (List ℕ) → ChannelField
channel_if_there None = Absent
channel_if_there (Some contents) = channel_in contents

abbrev pub channel_element_of : PlainMessage → ChannelField
channel_element_of m = channel_if_there (first_of 0x18 m)
