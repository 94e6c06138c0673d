-- What there is to read, and where it is from.
use Rattle.std.specs.Prelude.{◌≡◌, ℕ, List, Option, None}

-- of a file it is not told
abbrev pub TellsNothing : List ℕ → Option (List ℕ) → Type 0
TellsNothing name text = text ≡ None

-- the system has opened a file by this name, and this is what that has to give
abbrev pub GivesByName : {F : Type 0} → (List ℕ → F → Type 0) → (F → Option (List ℕ)) → List ℕ → Option (List ℕ) → Type 0
GivesByName {F = F} opens remaining name text = (file : F) × opens name file × (text ≡ remaining file)
