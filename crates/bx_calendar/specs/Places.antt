-- Octets and digits at the places of a text, counted from 0.
use Rattle.std.specs.Prelude.{ℕ, ◌+◌, ◌-◌, ◌*◌, ◌&&◌, nat_lt, Bool, List, slice_index_or}
use Rattle.std.specs.Char.{is_ascii_digit}

-- the octet at a place, and 0 beyond the end
abbrev pub octet_at : List ℕ → ℕ → ℕ
octet_at octets place = slice_index_or octets place 0

-- whether ASCII digits stand at the place and at the next
abbrev pub are_two_digits : List ℕ → ℕ → Bool
are_two_digits octets place = is_ascii_digit (octet_at octets place) && is_ascii_digit (octet_at octets (place + 1))

-- the number that these two digits write
abbrev pub two_at : List ℕ → ℕ → ℕ
two_at octets place = (octet_at octets place - 48) * 10 + (octet_at octets (place + 1) - 48)

-- whether two digits stand there, of a number below the limit
abbrev pub is_below : List ℕ → ℕ → ℕ → Bool
is_below octets place limit = are_two_digits octets place && nat_lt (two_at octets place) limit
