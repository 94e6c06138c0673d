-- What a list has by its head and tail.
use Rattle.std.proofs.Common.{◌≡◌, zero, suc, List, ◌∷◌, refl, arith, ◌⊎◌, inl, inr}
use Rattle.std.specs.List.{Contains}

pub Contains-head : {X : Type 0} (x : X) (xs : List X) → Contains (x ∷ xs) x
Contains-head x xs = (0, omega arith, refl)

pub Contains-tail : {X : Type 0} (x : X) (xs : List X) (y : X) → Contains xs y → Contains (x ∷ xs) y
Contains-tail x xs y c = (suc c.0, omega (arith, c.1), c.2)

pub Contains-cons_cases : {X : Type 0} (x : X) (xs : List X) (y : X) → Contains (x ∷ xs) y → (x ≡ y) ⊎ Contains xs y
Contains-cons_cases x xs y (zero, b, e) = inl e
Contains-cons_cases x xs y (suc k, b, e) = inr (k, omega (arith, b), e)
