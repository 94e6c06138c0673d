-- Where every channel is held by a row that runs, one more row that runs is one too many.
--
-- No row holds two channels, so the rows that run and hold one are at least as many as the channels.
use Rattle.std.proofs.Common.{◌≡◌, ℕ, zero, suc, ◌+◌, ◌<◌, ◌≤◌, Bool, true, false, cond, ◌&&◌, eqb, List, length, Option, Some, None, refl, sym, ap, subst, arith, inl, inr}
use Rattle.std.proofs.lemmas.Bool.{cases_lt, and_parts, and_from, eqb-true, eq-eqb, cond-true, cond-false, false_from_ne_true}
use Rattle.bx_base.specs.Sums.{sum_below}
use Rattle.bx_base.proofs.SumLemmas.{sum_below-le, sum_below-zero, sum_below-swap, sum_below-term, sum_below-one}
use Rattle.bx_base.specs.Channels.{has_channel, count_of}
use Rattle.bx_base.specs.Bookings.{Row, row_at, is_running}
use Rattle.bx_colour.specs.Colouring.{is_in, running_at}
use Rattle.bx_colour.proofs.RunningLemmas.{runs}

-- sums whose terms are in order, one of them strictly
sum_below-less : (n : ℕ) (f g : ℕ → ℕ) (k : ℕ) → ((i : ℕ) → i < n → f i ≤ g i) → k < n → f k + 1 ≤ g k → sum_below n f + 1 ≤ sum_below n g
sum_below-less zero f g k h b l = absurd (omega arith)
sum_below-less (suc n) f g k h b l =
    elim (cases_lt k n) [
      | inl a ↦ omega (arith, sum_below-less n f g k (λ i c. h i (omega arith)) a l, h n (omega arith))
      | inr a ↦ (let e : k ≡ n = omega arith in let here = rw e at l in omega (arith, sum_below-le n f g (λ i c. h i (omega arith)), here))
    ]

-- the option has this number
abbrev pub has_it : Option ℕ → ℕ → Bool
has_it None n = false
has_it (Some c) n = eqb c n

has_it-some : (o : Option ℕ) (n : ℕ) → has_it o n ≡ true → o ≡ Some n
has_it-some None n h = cc
has_it-some (Some c) n h = ap Some (eqb-true c n h)

module _ (rows : List Row) (channels accepted : List Bool) (held : ℕ → Option ℕ) (moment : ℕ)
    (on_each : (n : ℕ) → has_channel channels n ≡ true → (j : ℕ) × (held j ≡ Some n) × (is_running (row_at rows j) moment ≡ true))
    (only : (j c : ℕ) → held j ≡ Some c → (j < length rows) × (is_in accepted j ≡ true)) where
  -- the row holds the channel and runs
  abbrev holds : ℕ → ℕ → Bool
  holds j n = has_it (held j) n && is_running (row_at rows j) moment

  one_channel : (n : ℕ) (b : Bool) → has_channel channels n ≡ b → cond b 1 0 ≤ sum_below (length rows) (λ j. cond (holds j n) 1 0)
  one_channel n false e = omega arith
  one_channel n true e =
      let j = on_each n e in
      let within = (only j.0 n j.1).0 in
      let term = sum_below-term (length rows) (λ i. cond (holds i n) 1 0) j.0 within in
      let has : has_it (held j.0) n ≡ true = subst (λ o. has_it o n ≡ true) (sym j.1) (eq-eqb n n refl) in
      omega (arith, term, cond-true {A = ℕ} (holds j.0 n) 1 0 (and_from _ _ has j.2))

  no_channel : (j : ℕ) → ((n : ℕ) → holds j n ≡ true → ⊥) → sum_below (length channels) (λ n. cond (holds j n) 1 0) ≡ 0
  no_channel j none = sum_below-zero (length channels) (λ n. cond (holds j n) 1 0) (λ n h. cond-false {A = ℕ} (holds j n) 1 0 (false_from_ne_true _ (none n)))

  one_row : (j : ℕ) (b : Bool) → runs rows accepted moment j ≡ b → sum_below (length channels) (λ n. cond (holds j n) 1 0) ≤ cond b 1 0
  one_row j true e =
      sum_below-one (length channels) (λ n. holds j n) (λ m n lt h a b.
      let first = has_it-some (held j) m (and_parts _ _ a).0 in
      let second = has_it-some (held j) n (and_parts _ _ b).0 in
      let same : m ≡ n = cc (first, second) in
      omega (arith, same, lt))
  one_row j false e =
      let none = no_channel j (λ n h.
      let p = and_parts _ _ h in
      let in_set = (only j n (has_it-some (held j) n p.0)).1 in
      let both = and_from (is_in accepted j) (is_running (row_at rows j) moment) in_set p.1 in
      cc) in
      omega (arith, none)

  pub one_too_many : (r : ℕ) → r < length rows → held r ≡ None → runs rows accepted moment r ≡ true → count_of channels + 1 ≤ running_at rows accepted moment
  one_too_many r h none run =
      let on = λ (j n : ℕ). cond {A = ℕ} (holds j n) 1 0 in
      let each = sum_below-le (length channels) (λ n. cond (has_channel channels n) 1 0) (λ n. sum_below (length rows) (λ j. on j n)) (λ n b. one_channel n (has_channel channels n) refl) in
      let swap = sum_below-swap (length rows) (length channels) on in
      let empty = no_channel r (λ n t. (let some = has_it-some (held r) n (and_parts _ _ t).0 in cc)) in
      let less = sum_below-less (length rows) (λ j. sum_below (length channels) (on j)) (λ j. cond (runs rows accepted moment j) 1 0) r (λ j b. one_row j (runs rows accepted moment j) refl) h (omega (arith, empty, cond-true {A = ℕ} (runs rows accepted moment r) 1 0 run)) in
      omega (arith, each, swap, less)
