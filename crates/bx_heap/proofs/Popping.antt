-- A heap before and after its nearest place was taken.
use Rattle.std.proofs.Common.{◌≡◌, ℕ, ◌<◌, ◌≤◌, List, ◌∷◌, length, ap, arith, ◌⊎◌, inl, inr}
use Rattle.std.specs.List.{All, Contains}
use Rattle.std.specs.List.Sorted.{IsPermutation}
use Rattle.std.proofs.lemmas.List.Elements.{All-contains}
use Rattle.std.proofs.lemmas.List.Sorted.{Contains-permutation, IsPermutation-sym, length_permutation}
use Rattle.bx_heap.proofs.Lists.{Contains-head, Contains-tail, Contains-cons_cases}

module _ (before after : List (ℕ × ℕ)) (n p : ℕ) (moved : IsPermutation before ((n, p) ∷ after)) where
  back : (m v : ℕ) → Contains ((n, p) ∷ after) (m, v) → Contains before (m, v)
  back m v c = Contains-permutation ((n, p) ∷ after) before (m, v) (IsPermutation-sym before ((n, p) ∷ after) moved) c

  pub popped_there : Contains before (n, p)
  popped_there = back n p (Contains-head (n, p) after)

  pub popped_only : (m v : ℕ) → Contains after (m, v) → Contains before (m, v)
  popped_only m v c = back m v (Contains-tail (n, p) after (m, v) c)

  pub popped_kept : (m v : ℕ) → Contains before (m, v) → (◌≡◌ {A = ℕ × ℕ} (n, p) (m, v)) ⊎ Contains after (m, v)
  popped_kept m v c = Contains-cons_cases (n, p) after (m, v) (Contains-permutation before ((n, p) ∷ after) (m, v) moved c)

  pub popped_fewer : length after < length before
  popped_fewer = omega (arith, length_permutation before ((n, p) ∷ after) moved)

  pub popped_nearest : All (λ y. y.0 ≤ n) after → (m v : ℕ) → Contains before (m, v) → m ≤ n
  popped_nearest all m v c =
      elim (popped_kept m v c) [
        | inl e ↦ omega (arith, ap (λ (x : ℕ × ℕ). x.0) e)
        | inr a ↦ All-contains (λ (y : ℕ × ℕ). y.0 ≤ n) after (m, v) all a
      ]
