-- Lines of octets: fields with single spaces between them, and an LF at the end.
use Rattle.std.specs.Prelude.{ℕ, suc, zero, ◌+◌, ◌==◌, Bool, List, [], ◌∷◌, take, drop, Option, Some, None, position}
use Rattle.std.specs.List.{slice_split}

abbrev pub is_lf : ℕ → Bool
is_lf octet = octet == 10

abbrev pub is_space : ℕ → Bool
is_space octet = octet == 32

-- the fields of a line, whose LF is cut off
abbrev pub fields_of : List ℕ → List (List ℕ)
fields_of line = slice_split is_space line

-- the fields of the first line, and what stands after its LF; none where no LF is left
abbrev pub cut_line : List ℕ → Option ℕ → Option (List (List ℕ) × List ℕ)
cut_line bytes None = None
cut_line bytes (Some k) = Some (fields_of (take k bytes), drop (k + 1) bytes)

abbrev pub first_line : List ℕ → Option (List (List ℕ) × List ℕ)
first_line bytes = cut_line bytes (position is_lf bytes)

-- the first field, or an empty one where none is left
abbrev pub first : List (List ℕ) → List ℕ
first [] = []
first (field ∷ fields) = field

-- the fields after the first
abbrev pub other_fields : List (List ℕ) → List (List ℕ)
other_fields [] = []
other_fields (field ∷ fields) = fields

-- the field of a place, counted from 0, and the fields from there on
abbrev pub field : ℕ → List (List ℕ) → List ℕ
field zero fields = first fields
field (suc k) fields = field k (other_fields fields)

abbrev pub fields_from : ℕ → List (List ℕ) → List (List ℕ)
fields_from zero fields = fields
fields_from (suc k) fields = fields_from k (other_fields fields)
