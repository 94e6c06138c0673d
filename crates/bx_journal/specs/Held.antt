-- Private: octets that were read in a piece, and are not taken yet.
use Rattle.std.specs.Prelude.{ℕ, List, ◌≡◌, ◌+◌, [], ◌∷◌}

-- the octets that are held, and how many were taken before them
pub record Held : Type 0 where
  pub octets : List ℕ
  pub taken : ℕ

-- nothing is held, and nothing changes
abbrev pub HoldsNothing : Held → Held → Type 0
HoldsNothing old new = (old.octets ≡ []) × (new ≡ old)

-- the first octet that was held is taken
abbrev pub TakesHeld : ℕ → Held → Held → Type 0
TakesHeld octet old new = (old.octets ≡ octet ∷ new.octets) × (new.taken ≡ old.taken + 1)
