-- Texts in which no bar stands, and which hide none.
use Rattle.std.specs.Prelude.{◌≡◌, ℕ, ◌==◌, ◌&&◌, ◌||◌, Bool, true, false, List, [], ◌∷◌, codes}

-- whether a text begins with these octets
abbrev pub begins_with : List ℕ → List ℕ → Bool
begins_with [] text = true
begins_with (o ∷ os) [] = false
begins_with (o ∷ os) (p ∷ ps) = (o == p) && begins_with os ps

-- whether they stand in it somewhere
abbrev pub holds_octets : List ℕ → List ℕ → Bool
holds_octets octets [] = begins_with octets []
holds_octets octets (p ∷ ps) = begins_with octets (p ∷ ps) || holds_octets octets ps

-- no title of a bar begins in it, and no comment
pub record IsBarless (text : List ℕ) : Type 0 where
  pub untitled : holds_octets (codes "<title>row ") text ≡ false
  pub uncommented : holds_octets (codes "<!") text ≡ false
