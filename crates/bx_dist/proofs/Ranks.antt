-- How many places have a rank.
use Rattle.std.proofs.Common.{◌≡◌, ℕ, zero, suc, ◌<◌, ◌≤◌, cond, ltb, List, get_or, replicate, refl, arith, inl, inr}
use Rattle.std.proofs.lemmas.Bool.{cases_lt, cond-true, lt-ltb}
use Rattle.std.proofs.lemmas.Bool.Decides.{nat_tests}
use Rattle.std.proofs.lemmas.List.{get_or_past, get_or-replicate, length-replicate}
use Rattle.bx_base.specs.Sums.{sum_below}
use Rattle.bx_base.proofs.SumLemmas.{sum_below-le}

-- whether a place has a rank, as a number
abbrev pub marked : List ℕ → ℕ → ℕ
marked ranks v = cond (ltb 0 (get_or ranks v 0)) 1 0

pub marked_one : (ranks : List ℕ) (v : ℕ) → 0 < get_or ranks v 0 → marked ranks v ≡ 1
marked_one ranks v h = cond-true {A = ℕ} (ltb 0 (get_or ranks v 0)) 1 0 (lt-ltb 0 (get_or ranks v 0) h)

pub marked_none : (ranks : List ℕ) (v : ℕ) → get_or ranks v 0 ≡ 0 → marked ranks v ≡ 0
marked_none ranks v h = rw h refl

pub ones : (n : ℕ) → sum_below n (λ _. 1) ≡ n
ones zero = refl
ones (suc n) = omega (arith, ones n)

pub marked_few : (ranks : List ℕ) (v : ℕ) → marked ranks v ≤ 1
marked_few ranks v = grind (arith, nat_tests)

-- no more places have a rank than there are
pub marks_few : (n : ℕ) (ranks : List ℕ) → sum_below n (marked ranks) ≤ n
marks_few n ranks = omega (arith, ones n, sum_below-le n (marked ranks) (λ _. 1) (λ v h. marked_few ranks v))

pub zero_in : (n v : ℕ) → ◌≡◌ {A = ℕ} (get_or (replicate n 0) v 0) 0
zero_in n v = elim (cases_lt v n) [ inl h ↦ get_or-replicate n v 0 0 h | inr h ↦ get_or_past (replicate n 0) v 0 (omega (arith, length-replicate {A = ℕ} n 0)) ]
