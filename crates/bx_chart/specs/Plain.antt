-- The octets of a picture.
use Rattle.std.specs.Prelude.{ℕ, ◌==◌, ◌&&◌, ◌||◌, Bool, true, List, [], ◌∷◌, nat_le}

-- LF and printable ASCII: none needs an encoding
abbrev pub is_plain_octet : ℕ → Bool
is_plain_octet octet = (nat_le 32 octet && nat_le octet 126) || (octet == 10)

-- no other octet
abbrev pub is_plain : List ℕ → Bool
is_plain [] = true
is_plain (octet ∷ octets) = is_plain_octet octet && is_plain octets
