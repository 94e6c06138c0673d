-- Private: a look at the door.
use Rattle.std.specs.Prelude.{◌≡◌, ℕ, Option, Some, None}
use Rattle.bx_office_door.specs.Lending.{Lending, Taken, IsUsed}

-- it was only looked at: how many were answered there, and what its clock shows
abbrev pub IsSeenAt : {S : Type 0} → (S → Lending → S → Type 0) → Option (ℕ × ℕ) → S → S → Type 0
IsSeenAt lent None old new = lent old (Taken None) new
IsSeenAt lent (Some seen) old new = IsUsed lent (λ d t. (t ≡ d) × (seen ≡ (d.answers, d.shown))) old new
