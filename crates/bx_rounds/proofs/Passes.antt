-- A list of steps that is gone through again and again: which of its places were passed since something last changed.
use Rattle.std.proofs.Common.{◌≡◌, ℕ, ◌+◌, ◌-◌, ◌*◌, ◌<◌, ◌≤◌, arith, ◌⊎◌, inl, inr}
use Rattle.std.proofs.lemmas.Bool.{cases_lt}
use Rattle.std.proofs.Math.Nat.{mul-le-mul_right}
use Rattle.bx_rounds.specs.Rounds.{IsNextOnCircle}

-- one of the last n places passed before `at`, in a circle of so many
abbrev pub IsPassed : ℕ → ℕ → ℕ → ℕ → Type 0
IsPassed at n size j = ((j < at) × (at ≤ j + n)) ⊎ ((at ≤ j) × (at + size ≤ j + n))

pub passed_none : (at size j : ℕ) → j < size → IsPassed at 0 size j → ⊥
passed_none at size j h (inl p) = omega (arith, p.0, p.1)
passed_none at size j h (inr p) = omega (arith, p.0, p.1)

pub passed_all : (at n size j : ℕ) → at < size → size ≤ n → IsPassed at n size j
passed_all at n size j h l = elim (cases_lt j at) [ inl a ↦ inl (a, omega arith) | inr a ↦ inr (a, omega arith) ]

pub passed_before : (at n size next j : ℕ) → at < size → j < size → IsNextOnCircle at size next → IsPassed next (n + 1) size j → (j ≡ at) ⊎ IsPassed at n size j
passed_before at n size next j a h (inl s) (inl p) = elim (cases_lt j at) [ inl b ↦ inr (inl (b, omega (arith, p.1, s.1))) | inr b ↦ inl (omega (arith, p.0, s.1)) ]
passed_before at n size next j a h (inl s) (inr p) = inr (inr (omega (arith, p.0, s.1), omega (arith, p.1, s.1)))
passed_before at n size next j a h (inr s) (inl p) = absurd (omega (arith, p.0, s.1))
passed_before at n size next j a h (inr s) (inr p) = elim (cases_lt j at) [ inl b ↦ inr (inl (b, omega (arith, p.1, s.1, s.0))) | inr b ↦ inl (omega (arith, s.0)) ]

pub next_within : (at size next : ℕ) → at < size → IsNextOnCircle at size next → next < size
next_within at size next a (inl s) = omega (arith, s.0, s.1)
next_within at size next a (inr s) = omega (arith, s.1)

-- what falls with each change, and else with each place passed
abbrev pub work_left : ℕ → ℕ → ℕ → ℕ
work_left most size settled = most * (size + 1) + (size - settled)

pub less_after_change : (old new size settled : ℕ) → new + 1 ≤ old → work_left new size 0 < work_left old size settled
less_after_change old new size settled h = omega (arith, mul-le-mul_right (size + 1) h)

pub less_after_pass : (most size settled : ℕ) → settled < size → work_left most size (settled + 1) < work_left most size settled
less_after_pass most size settled h = omega arith
