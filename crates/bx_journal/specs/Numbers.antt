-- Numbers in the lines of a journal.
use Rattle.std.specs.Prelude.{ℕ, zero, suc, ◌==◌, ◌&&◌, nat_lt, Bool, List, [], ◌∷◌, Option, Some, None, decimal, if◌then◌else◌}
use Rattle.std.specs.List.{list_all}
use Rattle.std.specs.Char.{is_ascii_digit}
use Rattle.std.specs.Str.{bytes_eq}
use Rattle.bx_text.specs.Digits.{decimal_value}

-- digits that spell a number of 32 bits as it is written: with no leading zero
abbrev pub is_number_of_32_bits : List ℕ → Bool
is_number_of_32_bits digits = list_all is_ascii_digit digits && (nat_lt (decimal_value digits) 4294967296 && bytes_eq digits (decimal (decimal_value digits)))

-- the number that they spell, if they do
abbrev pub number_on : List ℕ → Option ℕ
number_on digits = if is_number_of_32_bits digits then Some (decimal_value digits) else None

-- how many octets stand before the first space, or in all where there is none
abbrev pub space_at : List ℕ → ℕ
space_at [] = zero
space_at (octet ∷ octets) = if octet == 32 then zero else suc (space_at octets)
