-- No moment has more rows running than the start of the last of them to start.
use Rattle.std.proofs.Common.{◌≡◌, ℕ, zero, suc, ◌<◌, ◌≤◌, Bool, true, false, cond, ◌&&◌, List, length, refl, arith, ◌⊎◌, inl, inr}
use Rattle.std.specs.Prelude.{nat_le, nat_lt}
use Rattle.std.proofs.lemmas.Bool.{cases_lt, and_parts, and_from, leb-true, ltb-true, le-leb, lt-ltb, cond-false}
use Rattle.bx_base.proofs.SumLemmas.{sum_below-le, sum_below-zero}
use Rattle.bx_base.specs.Bookings.{Row, row_at, is_running}
use Rattle.bx_colour.specs.Colouring.{is_in, running_at}

-- an accepted row runs at the moment
abbrev pub runs : List Row → List Bool → ℕ → ℕ → Bool
runs rows accepted t i = is_in accepted i && is_running (row_at rows i) t

-- the last to start among the first m rows that run at the moment
record IsLast (rows : List Row) (accepted : List Bool) (t m k : ℕ) : Type 0 where
  within : k < m
  runs_then : runs rows accepted t k ≡ true
  last : (i : ℕ) → i < m → runs rows accepted t i ≡ true → (row_at rows i).start ≤ (row_at rows k).start

module _ (rows : List Row) (accepted : List Bool) (t : ℕ) where
  last_with : (m : ℕ) (b : Bool) → runs rows accepted t m ≡ b → ((i : ℕ) → i < m → runs rows accepted t i ≡ false) ⊎ ((k : ℕ) × IsLast rows accepted t m k) → ((i : ℕ) → i < suc m → runs rows accepted t i ≡ false) ⊎ ((k : ℕ) × IsLast rows accepted t (suc m) k)
  last_with m false e (inl none) = inl (λ i h. elim (cases_lt i m) [ inl a ↦ none i a | inr a ↦ (let s : i ≡ m = omega arith in rw s e) ])
  last_with m false e (inr (k, l)) = inr (k, record { within = omega (arith, l.within); runs_then = l.runs_then; last = λ i h r. elim (cases_lt i m) [ inl a ↦ l.last i a r | inr a ↦ (let s : i ≡ m = omega arith in let q = rw s at r in cc) ] })
  last_with m true e (inl none) = inr (m, record { within = omega arith; runs_then = e; last = λ i h r. elim (cases_lt i m) [ inl a ↦ (let q = none i a in cc) | inr a ↦ (let s : i ≡ m = omega arith in rw s (omega arith)) ] })
  last_with m true e (inr (k, l)) =
      elim (cases_lt (row_at rows k).start (row_at rows m).start) [
        | inl later ↦ inr (m, record { within = omega arith; runs_then = e; last = λ i h r. elim (cases_lt i m) [ inl a ↦ omega (arith, later, l.last i a r) | inr a ↦ (let s : i ≡ m = omega arith in rw s (omega arith)) ] })
        | inr sooner ↦ inr (k, record { within = omega (arith, l.within); runs_then = l.runs_then; last = λ i h r. elim (cases_lt i m) [ inl a ↦ l.last i a r | inr a ↦ (let s : i ≡ m = omega arith in rw s sooner) ] })
      ]

  last_of : (m : ℕ) → ((i : ℕ) → i < m → runs rows accepted t i ≡ false) ⊎ ((k : ℕ) × IsLast rows accepted t m k)
  last_of zero = inl (λ i h. absurd (omega arith))
  last_of (suc m) = last_with m (runs rows accepted t m) refl (last_of m)

  runs_at_start : (k i : ℕ) → runs rows accepted t k ≡ true → (row_at rows i).start ≤ (row_at rows k).start → runs rows accepted t i ≡ true → runs rows accepted (row_at rows k).start i ≡ true
  runs_at_start k i rk le ri =
      let pk = and_parts (nat_le (row_at rows k).start t) (nat_lt t (row_at rows k).end) (and_parts (is_in accepted k) (is_running (row_at rows k) t) rk).1 in
      let pi = and_parts _ _ ri in
      let qi = and_parts _ _ pi.1 in
      let k_started = leb-true (row_at rows k).start t pk.0 in
      let i_lasts = ltb-true t (row_at rows i).end qi.1 in
      and_from _ _ pi.0 (and_from _ _ (le-leb (row_at rows i).start (row_at rows k).start le) (lt-ltb (row_at rows k).start (row_at rows i).end (omega arith)))

  one_row : (k i : ℕ) → IsLast rows accepted t (length rows) k → i < length rows → (b : Bool) → runs rows accepted t i ≡ b → cond b 1 0 ≤ cond (runs rows accepted (row_at rows k).start i) 1 0
  one_row k i l h true e = let there = runs_at_start k i l.runs_then (l.last i h e) e in rw there (omega arith)
  one_row k i l h false e = omega arith

-- where the starts of accepted rows have room, each moment has
pub room_from_starts : (rows : List Row) (accepted : List Bool) (count : ℕ) → ((k : ℕ) → k < length rows → is_in accepted k ≡ true → running_at rows accepted (row_at rows k).start ≤ count) → (t : ℕ) → running_at rows accepted t ≤ count
room_from_starts rows accepted count h t =
    elim (last_of rows accepted t (length rows)) [
      | inl none ↦ (let zero_all = sum_below-zero (length rows) (λ i. cond (runs rows accepted t i) 1 0) (λ i b. cond-false {A = ℕ} (runs rows accepted t i) 1 0 (none i b)) in omega (arith, zero_all))
      | inr (k, l) ↦ (
          let less = sum_below-le (length rows) (λ i. cond (runs rows accepted t i) 1 0) (λ i. cond (runs rows accepted (row_at rows k).start i) 1 0) (λ i b. one_row rows accepted t k i l b (runs rows accepted t i) refl) in
          omega (arith, less, h k l.within (and_parts _ _ l.runs_then).0))
    ]
