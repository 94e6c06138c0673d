-- Octets as two hexadecimal digits each, the high one first. The letters are those from the digit of ten on: A to F, or a to f.
use Rattle.std.specs.Prelude.{ℕ, ◌+◌, ◌-◌, ◌*◌, ◌/◌, ◌%◌, ◌&&◌, nat_lt, nat_le, Bool, List, [], ◌∷◌, ◌++◌, Option, Some, None, is_some, if◌then◌else◌}

-- the digit of a value below 16
abbrev pub hex_digit : ℕ → ℕ → ℕ
hex_digit ten value = if nat_lt value 10 then value + 48 else value - 10 + ten

abbrev pub hex_of : ℕ → List ℕ → List ℕ
hex_of ten [] = []
hex_of ten (octet ∷ octets) = hex_digit ten (octet / 16) ∷ hex_digit ten (octet % 16) ∷ hex_of ten octets

-- the value of a digit
abbrev pub hex_value : ℕ → ℕ → Option ℕ
hex_value ten digit =
    if nat_le 48 digit && nat_le digit 57 then Some (digit - 48)
    else if nat_le ten digit && nat_le digit (ten + 5) then Some (digit - ten + 10)
    else None

abbrev pub is_hex : ℕ → ℕ → Bool
is_hex ten digit = is_some (hex_value ten digit)

-- the octet of two digits
abbrev pub octet_of_digits : Option ℕ → Option ℕ → Option ℕ
octet_of_digits (Some high) (Some low) = Some (high * 16 + low)
octet_of_digits (Some high) None = None
octet_of_digits None low = None

-- these octets, and others after them
abbrev pub following : List ℕ → Option (List ℕ) → Option (List ℕ)
following prefix (Some octets) = Some (prefix ++ octets)
following prefix None = None

abbrev pub after_octet : Option ℕ → Option (List ℕ) → Option (List ℕ)
after_octet (Some octet) octets = following (octet ∷ []) octets
after_octet None octets = None

-- the octets that digits spell, if they do
abbrev pub octets_of_digits : ℕ → List ℕ → Option (List ℕ)
octets_of_digits ten [] = Some []
octets_of_digits ten (high ∷ []) = None
octets_of_digits ten (high ∷ low ∷ digits) = after_octet (octet_of_digits (hex_value ten high) (hex_value ten low)) (octets_of_digits ten digits)
