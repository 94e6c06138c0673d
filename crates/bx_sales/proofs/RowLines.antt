-- The row and the text of a line are read in it again.
use Rattle.std.proofs.Common.{◌≡◌, ℕ, suc, ◌+◌, ◌<◌, ◌≤◌, List, [], ◌∷◌, ◌++◌, take, drop, length, decimal, refl, ap, ◌∙◌, arith}
use Rattle.bx_journal.specs.Numbers.{space_at}
use Rattle.bx_journal.proofs.NumbersRead.{number_read, decimal_digits, decimal_short, space_after}
use Rattle.bx_sales.specs.Amending.{number_or_none, row_numbered, row_named, behind_row}

pub row_again : (row : ℕ) → row < 65536 → row_numbered (decimal row) ≡ row
row_again row small = ap number_or_none (number_read row (omega (arith, small)))

module _ (row : ℕ) (small : row < 65536) (text : List ℕ) where
  at : space_at (decimal row ++ 32 ∷ text) ≡ length (decimal row)
  at = space_after (decimal row) text (decimal_digits row (omega (arith, small)))

  pub named_again : row_named (decimal row ++ 32 ∷ text) ≡ row
  named_again = ap (λ (n : ℕ). row_numbered (take n (decimal row ++ 32 ∷ text))) at ∙ ap row_numbered (first_of (decimal row)) ∙ row_again row small
    where
      first_of : (ds : List ℕ) → take (length ds) (ds ++ 32 ∷ text) ≡ ds
      first_of [] = refl
      first_of (d ∷ ds) = ap (λ (l : List ℕ). d ∷ l) (first_of ds)

  pub text_again : behind_row (decimal row ++ 32 ∷ text) ≡ text
  text_again = ap (λ (n : ℕ). drop (n + 1) (decimal row ++ 32 ∷ text)) at ∙ rest_of (decimal row)
    where
      rest_of : (ds : List ℕ) → drop (length ds + 1) (ds ++ 32 ∷ text) ≡ text
      rest_of [] = refl
      rest_of (d ∷ ds) = let e : suc (length ds) + 1 ≡ suc (length ds + 1) = omega arith in rw e (rest_of ds)

pub short : (row : ℕ) → row < 65536 → length (decimal row) ≤ 10
short row small = decimal_short row (omega (arith, small))
