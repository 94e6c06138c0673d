-- Files of which some have been looked at.
use Rattle.std.proofs.Common.{◌≡◌, ℕ, ◌+◌, ◌<◌, Bool, List, ◌∷◌, length, Option, Some, None, get_or, drop, drop-cons, add-one, inl, inr, sym, subst, refl}
use Rattle.std.specs.List.{All}
use Rattle.std.proofs.lemmas.List.Elements.{All-cons}
use Rattle.bx_request.specs.Locations.{Meets, MeetsAny, HaveMet, IsApart, AreApart}
use Rattle.bx_request.specs.declared.locations.Location.{Location}
use Rattle.bx_request.specs.declared.uses.FileUse.{FileUse}

next_use : (xs : List (Option FileUse)) (k : ℕ) (o : Option FileUse) → k < length xs → get_or xs k None ≡ o → drop k xs ≡ o ∷ drop (k + 1) xs
next_use xs k o within is = subst (λ (p : Option FileUse). drop k xs ≡ p ∷ drop (k + 1) xs) is (rw add-one (drop-cons xs k None within))

module _ (tells : List ℕ → Option Location → Type 0) where
  module _ (name : List ℕ) (is_written : Bool) (xs : List (Option FileUse)) (k : ℕ) (o : Option FileUse) (within : k < length xs) (is : get_or xs k None ≡ o) where
    pub all_rest : IsApart tells name is_written o → All (IsApart tells name is_written) (drop (k + 1) xs) → All (IsApart tells name is_written) (drop k xs)
    all_rest here rest = subst (All (IsApart tells name is_written)) (sym (next_use xs k o within is)) (All-cons (IsApart tells name is_written) o (drop (k + 1) xs) here rest)

    any_later : (rest : List (Option FileUse)) (met : List ℕ) (o : Option FileUse) → MeetsAny tells name is_written rest met → MeetsAny tells name is_written (o ∷ rest) met
    any_later rest met None m = m
    any_later rest met (Some other) m = inr m

    pub any_rest : (met : List ℕ) → MeetsAny tells name is_written (drop (k + 1) xs) met → MeetsAny tells name is_written (drop k xs) met
    any_rest met m = subst (λ ys. MeetsAny tells name is_written ys met) (sym (next_use xs k o within is)) (any_later (drop (k + 1) xs) met o m)

    pub any_here : (other : FileUse) → o ≡ Some other → Meets tells name is_written other → MeetsAny tells name is_written (drop k xs) other.name.now
    any_here other some meets =
        subst (λ ys. MeetsAny tells name is_written ys other.name.now) (sym (next_use xs k o within is))
        (subst (λ p. MeetsAny tells name is_written (p ∷ drop (k + 1) xs) other.name.now) (sym some) (inl (meets, refl)))

  module _ (xs : List (Option FileUse)) (k : ℕ) (o : Option FileUse) (within : k < length xs) (is : get_or xs k None ≡ o) where
    have_later : (rest : List (Option FileUse)) (met : List ℕ) (o : Option FileUse) → HaveMet tells rest met → HaveMet tells (o ∷ rest) met
    have_later rest met None m = m
    have_later rest met (Some one) m = inr m

    pub have_rest : (met : List ℕ) → HaveMet tells (drop (k + 1) xs) met → HaveMet tells (drop k xs) met
    have_rest met m = subst (λ ys. HaveMet tells ys met) (sym (next_use xs k o within is)) (have_later (drop (k + 1) xs) met o m)

    pub have_here : (one : FileUse) (met : List ℕ) → o ≡ Some one → MeetsAny tells one.name.now one.is_written (drop (k + 1) xs) met → HaveMet tells (drop k xs) met
    have_here one met some meets =
        subst (λ ys. HaveMet tells ys met) (sym (next_use xs k o within is))
        (subst (λ p. HaveMet tells (p ∷ drop (k + 1) xs) met) (sym some) (inl meets))

    pub apart_here : (one : FileUse) → o ≡ Some one → All (IsApart tells one.name.now one.is_written) (drop (k + 1) xs) → AreApart tells (drop (k + 1) xs) → AreApart tells (drop k xs)
    apart_here one some here rest =
        subst (AreApart tells) (sym (next_use xs k o within is))
        (subst (λ p. AreApart tells (p ∷ drop (k + 1) xs)) (sym some) (here, rest))

    pub apart_none : o ≡ None → AreApart tells (drop (k + 1) xs) → AreApart tells (drop k xs)
    apart_none none rest =
        subst (AreApart tells) (sym (next_use xs k o within is))
        (subst (λ p. AreApart tells (p ∷ drop (k + 1) xs)) (sym none) rest)
