-- What lies between two places: the sum of what is in each gap.
use Rattle.std.proofs.Common.{zero, suc, ◌≡◌, ℕ, ◌+◌, ◌<◌, ◌≤◌, cond, ◌&&◌, leb, ltb, refl, ap, inl, inr, arith}
use Rattle.std.proofs.lemmas.Bool.{cases_lt}
use Rattle.std.proofs.lemmas.Bool.Decides.{nat_tests}
use Rattle.bx_base.specs.Sums.{sum_below}
use Rattle.bx_base.proofs.SumLemmas.{sum_below-zero}

early : (from to v a : ℕ) → v < from → ◌≡◌ {A = ℕ} (cond (leb from v && ltb v to) a 0) 0
early from to v a h = grind (arith, nat_tests)

inside : (from to v a : ℕ) → from ≤ v → v < to → ◌≡◌ {A = ℕ} (cond (leb from v && ltb v to) a 0) a
inside from to v a h k = grind (arith, nat_tests)

late : (from to v a : ℕ) → to ≤ v → ◌≡◌ {A = ℕ} (cond (leb from v && ltb v to) a 0) 0
late from to v a h = grind (arith, nat_tests)

module _ (price : ℕ → ℕ) (from to : ℕ) (order : from ≤ to) where
  none_before : (n : ℕ) → n ≤ from → sum_below n (λ v. cond (leb from v && ltb v to) (price v) 0) ≡ 0
  none_before n h = sum_below-zero n (λ v. cond (leb from v && ltb v to) (price v) 0) (λ v b. early from to v (price v) (omega arith))

  between : (n : ℕ) → from ≤ n → n ≤ to → sum_below n (λ v. cond (leb from v && ltb v to) (price v) 0) + sum_below from price ≡ sum_below n price
  between zero h k = let e : from ≡ 0 = omega arith in rw e refl
  between (suc n) h k =
      elim (cases_lt n from) [
        | inl a ↦ (let e : suc n ≡ from = omega arith in let none = none_before (suc n) (omega arith) in let same = ap (λ (m : ℕ). sum_below m price) e in omega (arith, none, same))
        | inr a ↦ omega (arith, between n a (omega arith), inside from to n (price n) a (omega arith))
      ]

  -- from a place to a later one: what is before the later one, less what is before the earlier
  pub spanned : (n : ℕ) → to ≤ n → sum_below n (λ v. cond (leb from v && ltb v to) (price v) 0) + sum_below from price ≡ sum_below to price
  spanned zero h = let e : to ≡ 0 = omega arith in let f : from ≡ 0 = omega arith in rw (e, f) refl
  spanned (suc n) h =
      elim (cases_lt n to) [
        | inl a ↦ (let e : suc n ≡ to = omega arith in let whole = between (suc n) (omega arith) (omega arith) in let same = ap (λ (m : ℕ). sum_below m price) e in omega (arith, whole, same))
        | inr a ↦ omega (arith, spanned n a, late from to n (price n) a)
      ]
