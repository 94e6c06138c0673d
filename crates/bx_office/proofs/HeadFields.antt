-- The fields of an answer, and its head by what is written of it.
use Rattle.std.proofs.Common.{◌≡◌, subst, ap, ◌∙◌, refl, ℕ, List, [], ◌∷◌}
use Rattle.http1.specs.declared.head.Header as Sent
use Rattle.http1.specs.Fields.{Header}
use Rattle.http1.specs.Head.{header_parts, pairs}

cons_is : {A : Type 0} (x y : A) (xs ys : List A) → x ≡ y → xs ≡ ys → (x ∷ xs) ≡ (y ∷ ys)
cons_is x y xs ys e f = ap (λ z. z ∷ xs) e ∙ ap (λ zs. y ∷ zs) f

pub seven_fields : (a b c d e f g : Sent.Header) (pa pb pc pd pe pf pg : Header) → header_parts a ≡ pa → header_parts b ≡ pb → header_parts c ≡ pc → header_parts d ≡ pd → header_parts e ≡ pe → header_parts f ≡ pf → header_parts g ≡ pg
    → pairs (a ∷ b ∷ c ∷ d ∷ e ∷ f ∷ g ∷ []) ≡ (pa ∷ pb ∷ pc ∷ pd ∷ pe ∷ pf ∷ pg ∷ [])
seven_fields a b c d e f g pa pb pc pd pe pf pg ia ib ic id4 ie ig ih = cons_is _ _ _ _ ia (cons_is _ _ _ _ ib (cons_is _ _ _ _ ic (cons_is _ _ _ _ id4 (cons_is _ _ _ _ ie (cons_is _ _ _ _ ig (cons_is _ _ _ _ ih refl))))))

pub eight_fields : (a b c d e f g h : Sent.Header) (pa pb pc pd pe pf pg ph : Header) → header_parts a ≡ pa → header_parts b ≡ pb → header_parts c ≡ pc → header_parts d ≡ pd → header_parts e ≡ pe → header_parts f ≡ pf → header_parts g ≡ pg → header_parts h ≡ ph
    → pairs (a ∷ b ∷ c ∷ d ∷ e ∷ f ∷ g ∷ h ∷ []) ≡ (pa ∷ pb ∷ pc ∷ pd ∷ pe ∷ pf ∷ pg ∷ ph ∷ [])
eight_fields a b c d e f g h pa pb pc pd pe pf pg ph ia ib ic id4 ie ig ih ij = cons_is _ _ _ _ ia (seven_fields b c d e f g h pb pc pd pe pf pg ph ib ic id4 ie ig ih ij)

-- what holds by these parts of a head holds by equal ones
pub head_told : (P : ℕ → List ℕ → List Header → Type 0) (code code' : ℕ) (reason reason' : List ℕ) (fields fields' : List Header) → code ≡ code' → reason ≡ reason' → fields ≡ fields' → P code reason fields → P code' reason' fields'
head_told P code code' reason reason' fields fields' ec er ef p = subst (λ (c : ℕ). P c reason' fields') ec (subst (λ (r : List ℕ). P code r fields') er (subst (λ (fs : List Header). P code reason fs) ef p))
