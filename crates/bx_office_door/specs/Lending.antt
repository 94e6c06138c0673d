-- A door that is lent to whoever uses it: it is taken, something is done at it, and it is put back.
use Rattle.std.specs.Prelude.{◌≡◌, ◌⊎◌, List, [], ◌∷◌, Option, Some, None}
use Rattle.bx_office_door.specs.declared.door.Door.{Door}

pub data Lending : Type 0 where
  -- the door was taken, where it was there
  Taken : (door : Option Door) → Lending
  -- this door was put back
  PutBack : (door : Door) → Lending

-- the door was taken, this was done at it, and then it was put back
pub record IsUsed {S : Type 0} (lent : S → Lending → S → Type 0) (done : Door → Door → Type 0) (old new : S) : Type 0 where
  pub before : Door
  pub after : Door
  pub mid : S
  pub taken : lent old (Taken (Some before)) mid
  pub used : done before after
  pub put_back : lent mid (PutBack after) new

-- .. where it was there: else nothing was done
abbrev pub IsUsedWhereThere : {S : Type 0} → (S → Lending → S → Type 0) → (Door → Door → Type 0) → S → S → Type 0
IsUsedWhereThere lent done old new = lent old (Taken None) new ⊎ IsUsed lent done old new

-- it was taken and put back as it was, each time
abbrev pub AreLooks : {S : Type 0} → (S → Lending → S → Type 0) → List (Option Door) → S → S → Type 0
AreLooks lent [] old new = new ≡ old
AreLooks {S} lent (None ∷ looks) old new = (mid : S) × lent old (Taken None) mid × AreLooks lent looks mid new
AreLooks {S} lent (Some door ∷ looks) old new = (mid : S) × IsUsed lent (λ d t. (d ≡ door) × (t ≡ d)) old mid × AreLooks lent looks mid new

-- the door was only looked at, if at all
abbrev pub WasLookedAt : {S : Type 0} → (S → Lending → S → Type 0) → S → S → Type 0
WasLookedAt lent old new = (looks : List (Option Door)) × AreLooks lent looks old new
