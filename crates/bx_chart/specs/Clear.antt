-- Private: pieces of texts in which no bar stands.
use Rattle.std.specs.Prelude.{ℕ, ◌==◌, ◌&&◌, ◌||◌, not, Bool, true, false, List, [], ◌∷◌}

-- what stands after a `<`: two octets at least, which are neither `!` and another, nor `ti`
abbrev pub is_fine : List ℕ → Bool
is_fine (a ∷ b ∷ os) = not (33 == a) && not ((116 == a) && (105 == b))
is_fine _ = false

-- each `<` of a piece has that after it
abbrev pub is_clear : List ℕ → Bool
is_clear [] = true
is_clear (o ∷ os) = (not (60 == o) || is_fine os) && is_clear os
