-- The key of a request: 1 to 64 visible octets of ASCII, without `"` and `\`, in quotes or not.
use Rattle.std.specs.Prelude.{ℕ, ◌-◌, ◌==◌, ◌&&◌, nat_le, not, if◌then◌else◌, Bool, true, List, [], ◌∷◌, ◌++◌, length, replicate, slice_range, slice_index_or, Option, Some, None, is_some}

abbrev pub is_key_octet : ℕ → Bool
is_key_octet c = nat_le 33 c && (nat_le c 126 && (not (c == 34) && not (c == 92)))

abbrev pub are_key_octets : List ℕ → Bool
are_key_octets [] = true
are_key_octets (c ∷ more) = is_key_octet c && are_key_octets more

abbrev pub is_key : List ℕ → Bool
is_key octets = nat_le 1 (length octets) && (nat_le (length octets) 64 && are_key_octets octets)

-- the octets as a key, where they are one
abbrev pub key_by : List ℕ → Option (List ℕ)
key_by octets = if is_key octets then Some octets else None

-- a quote stands before all else, and another one after it
abbrev pub is_quoted : List ℕ → Bool
is_quoted text = nat_le 2 (length text) && ((slice_index_or text 0 0 == 34) && (slice_index_or text (length text - 1) 0 == 34))

abbrev pub unquoted : List ℕ → List ℕ
unquoted text = if is_quoted text then slice_range text 1 (length text - 1) else text

-- what the value of the field says
abbrev pub key_of : List ℕ → Option (List ℕ)
key_of value = key_by (unquoted value)

-- a request has no such field, or one that says a key
abbrev pub is_keyed : Option (List ℕ) → Bool
is_keyed None = true
is_keyed (Some value) = is_some (key_of value)

-- octets with zeros after them, up to 64
abbrev pub zero_filled : List ℕ → List ℕ
zero_filled octets = octets ++ replicate (64 - length octets) 0
