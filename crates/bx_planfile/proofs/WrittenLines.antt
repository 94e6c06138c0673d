-- The lines that are built are those of the text.
use Rattle.std.proofs.Common.{◌≡◌, List, ℕ, [], ◌∷◌, ◌++◌, append_assoc}
use Rattle.bx_text.specs.Lines.{line_text}

-- seven fields, one after the other
pub seven_fields : (a b c d e f g l0 l1 l2 l3 l4 l5 l6 l7 : List ℕ) → l0 ≡ [] → l1 ≡ l0 ++ (a ++ 32 ∷ []) → l2 ≡ l1 ++ (b ++ 32 ∷ []) → l3 ≡ l2 ++ (c ++ 32 ∷ []) → l4 ≡ l3 ++ (d ++ 32 ∷ []) → l5 ≡ l4 ++ (e ++ 32 ∷ [])
    → l6 ≡ l5 ++ (f ++ 32 ∷ []) → l7 ≡ l6 ++ (g ++ 10 ∷ []) → l7 ≡ line_text (a ∷ b ∷ c ∷ d ∷ e ∷ f ∷ g ∷ [])
seven_fields a b c d e f g l0 l1 l2 l3 l4 l5 l6 l7 p0 p1 p2 p3 p4 p5 p6 p7 = rw (p7, p6, p5, p4, p3, p2, p1, p0) (simp append_assoc)
