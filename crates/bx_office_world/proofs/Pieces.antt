-- Texts that are built piece by piece.
use Rattle.std.proofs.Common.{◌≡◌, ap, ◌∙◌, ℕ, ◌==◌, Bool, false, arith, if◌then◌else◌, List, [], ◌++◌, Result, Ok, Err, OnOk}
use Rattle.std.proofs.lemmas.List.{append_assoc}
use Rattle.std.proofs.lemmas.Bool.Decides.{nat_tests}

-- one piece, and another after it
pub joined : (a b c x y : List ℕ) → b ≡ a ++ x → c ≡ b ++ y → c ≡ a ++ (x ++ y)
joined a b c x y e f = f ∙ ap (λ (t : List ℕ). t ++ y) e ∙ append_assoc a x y

pub joined_on : {T E : Type 0} (r : Result T E) (a b c x y : List ℕ) → b ≡ a ++ x → OnOk r (c ≡ b ++ y) → OnOk r (c ≡ a ++ (x ++ y))
joined_on (Ok v) a b c x y e f = joined a b c x y e f
joined_on (Err w) a b c x y e f = f

none_not : (count : ℕ) → (count ≡ 0 → ⊥) → (count == 0) ≡ false
none_not count some = grind (arith, nat_tests)

-- what is written unless there is none
pub unless_none : (count : ℕ) (xs : List ℕ) → (count ≡ 0 → ⊥) → (if count == 0 then [] else xs) ≡ xs
unless_none count xs some = ap (λ (b : Bool). if b then [] else xs) (none_not count some)
