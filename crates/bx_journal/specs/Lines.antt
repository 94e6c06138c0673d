-- The lines of a text that a crash may have cut short.
use Rattle.std.specs.Prelude.{ℕ, ◌==◌, List, [], ◌∷◌, ◌++◌, if◌then◌else◌}
use Rattle.std.specs.List.{flat_map}

-- one octet more at the start of the first line; where no line is ended, the octet is in none
abbrev pub onto : ℕ → List (List ℕ) → List (List ℕ)
onto octet [] = []
onto octet (line ∷ lines) = (octet ∷ line) ∷ lines

-- the whole lines: those that LF ends, without it. What stands after the last LF is in none.
abbrev pub whole_lines : List ℕ → List (List ℕ)
whole_lines [] = []
whole_lines (octet ∷ octets) = if octet == 10 then [] ∷ whole_lines octets else onto octet (whole_lines octets)

-- a line with its LF
abbrev pub line_ended : List ℕ → List ℕ
line_ended line = line ++ 10 ∷ []

-- the prefix of a text that is whole lines
abbrev pub whole_text : List ℕ → List ℕ
whole_text octets = flat_map line_ended (whole_lines octets)
