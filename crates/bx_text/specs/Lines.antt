-- Lines of octets: fields with single spaces between them, and an LF at the end.
use Rattle.std.specs.Prelude.{ℕ, ◌+◌, Bool, true, false, List, [], ◌∷◌, ◌++◌, decimal}
use Rattle.std.specs.List.{flat_map, join_with_byte}

-- a line from its fields
abbrev pub line_text : List (List ℕ) → List ℕ
line_text fields = join_with_byte 32 fields ++ 10 ∷ []

-- a word, and a number after it
abbrev pub named : List ℕ → ℕ → List (List ℕ)
named word n = word ∷ decimal n ∷ []

-- the numbers from n on that are in the set, in rising order
abbrev pub members_from : ℕ → List Bool → List ℕ
members_from n [] = []
members_from n (true ∷ others) = n ∷ members_from (n + 1) others
members_from n (false ∷ others) = members_from (n + 1) others

-- numbers, each with a space before it
abbrev pub spaced : List ℕ → List ℕ
spaced numbers = flat_map (λ n. 32 ∷ decimal n) numbers
