-- Lists that a loop goes through, one after another.
use Rattle.std.proofs.Common.{◌≡◌, ◌<◌, ◌≤◌, ◌+◌, ◌++◌, ◌∷◌, ◌∙◌, ap, ap₂, sym, suc, ℕ, List, length, drop, drop-cons, append_assoc, append-nil, slice_index_or, arith}
use Rattle.std.specs.List.{flat_map}
use Rattle.std.proofs.lemmas.List.{drop_all, get_or_default}

-- the one of an index, and those after it
pub cut : {A : Type 0} (xs : List A) (k : ℕ) (x : A) → x ≡ slice_index_or xs k x → k < length xs → drop k xs ≡ x ∷ drop (k + 1) xs
cut {A = A} xs k x is lt = drop-cons xs k x lt ∙ ap₂ (λ (y : A) (n : ℕ). y ∷ drop n xs) (sym is) (let q : suc k ≡ k + 1 = omega arith in q)

-- what is added for one of them, where the text with what is added for the rest is known
pub one_added : {A : Type 0} (f : A → List ℕ) (xs : List A) (k : ℕ) (x : A) (old new whole : List ℕ) → x ≡ slice_index_or xs k x → k < length xs → new ≡ old ++ f x → old ++ flat_map f (drop k xs) ≡ whole → new ++ flat_map f (drop (k + 1) xs) ≡ whole
one_added {A = A} f xs k x old new whole is lt added before =
    ap (λ (t : List ℕ). t ++ flat_map f (drop (k + 1) xs)) added
    ∙ append_assoc old (f x) (flat_map f (drop (k + 1) xs))
    ∙ ap (λ (ys : List A). old ++ flat_map f ys) (sym (cut xs k x is lt))
    ∙ before

-- all are
pub all_added : {A : Type 0} (f : A → List ℕ) (xs : List A) (k : ℕ) (text whole : List ℕ) → length xs ≤ k → text ++ flat_map f (drop k xs) ≡ whole → text ≡ whole
all_added {A = A} f xs k text whole past before = sym (append-nil text) ∙ ap (λ (ys : List A). text ++ flat_map f ys) (sym (drop_all k xs past)) ∙ before

-- the same, where it is read with a default
pub one_read : {A : Type 0} (f : A → List ℕ) (xs : List A) (k : ℕ) (d : A) (old new whole : List ℕ) → k < length xs → new ≡ old ++ f (slice_index_or xs k d) → old ++ flat_map f (drop k xs) ≡ whole → new ++ flat_map f (drop (k + 1) xs) ≡ whole
one_read f xs k d old new whole lt added before = one_added f xs k (slice_index_or xs k d) old new whole (get_or_default xs k d (slice_index_or xs k d) lt) lt added before
