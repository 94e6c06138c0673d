use Rattle.std.proofs.Common.{zero, suc, ◌≡◌, ℕ, ◌+◌, ◌*◌, ◌<◌, ◌≤◌, Bool, true, false, cond, ◌&&◌, List, [], ◌∷◌, length, eqb, sym, refl, ◌∙◌, subst, arith, inl, inr}
use Rattle.std.specs.Prelude.{ℤ, pos, ◌+ℤ◌, ◌≤ℤ◌}
use Rattle.std.specs.List.{sum_by}
use Rattle.std.proofs.lemmas.Int.{ints}
use Rattle.std.proofs.Math.Nat.{mul-le-mul_right}
use Rattle.std.proofs.lemmas.List.Sums.{sum_by-cons}
use Rattle.std.proofs.lemmas.List.{get_or_past}
use Rattle.std.proofs.lemmas.Bool.{cases_lt, cond-true, cond-false, false_from_ne_true, and_parts, and_from, eqb-true, eq-eqb}
use Rattle.bx_base.specs.Sums.{sum_below, sum_ints_below}
use Rattle.bx_base.specs.Channels.{has_channel, count_of}
use Rattle.bx_base.specs.Bookings.{Row, row_at, is_running, Carries, IsLawful, pay_of}
use Rattle.bx_base.specs.Bound.{Charge, sum_of_prices, cost_of, term_of, bound_of}
use Rattle.bx_base.specs.Sides.{gain_of, loss_of}
use Rattle.bx_base.proofs.SumLemmas.{sum_below-le, sum_below-zero, sum_below-add, sum_below-mul, sum_below-same, sum_below-sum_by, sum_below-swap, sum_below-term, sum_below-more, sum_by-le_each, sum_by-mul, sum_below-one}

-- a number beyond the list is no channel
has-lt : (channels : List Bool) (n : ℕ) → has_channel channels n ≡ true → n < length channels
has-lt channels n h = elim (cases_lt n (length channels)) [ inl a ↦ a | inr a ↦ (let past = get_or_past channels n false a in cc) ]

-- a row of the set that runs at the moment
abbrev pub runs : List Row → (ℕ → Bool) → ℕ → ℕ → Bool
runs rows set moment i = set i && is_running (row_at rows i) moment

-- it has this channel too
abbrev pub runs_on : List Row → (ℕ → Bool) → (ℕ → ℕ) → ℕ → ℕ → ℕ → Bool
runs_on rows set assignment moment i channel = runs rows set moment i && eqb (assignment i) channel

module _ (rows : List Row) (channels : List Bool) (set : ℕ → Bool) (assignment : ℕ → ℕ) (carries : Carries rows channels set assignment) (moment : ℕ) where
  one_per_channel : (channel : ℕ) → (b : Bool) → has_channel channels channel ≡ b → sum_below (length rows) (λ i. cond (runs_on rows set assignment moment i channel) 1 0) ≤ cond b 1 0
  one_per_channel channel true e =
      sum_below-one (length rows) (λ i. runs_on rows set assignment moment i channel) (λ i j a b p q.
      let p' = and_parts _ _ p in
      let q' = and_parts _ _ q in
      let p'' = and_parts _ _ p'.0 in
      let q'' = and_parts _ _ q'.0 in
      carries.apart i j a b p''.0 q''.0 (moment, p''.1, q''.1) (eqb-true _ _ p'.1 ∙ sym (eqb-true _ _ q'.1)))
  one_per_channel channel false e =
      let none = sum_below-zero (length rows) (λ i. cond (runs_on rows set assignment moment i channel) 1 0) (λ i h.
      cond-false {A = ℕ} (runs_on rows set assignment moment i channel) 1 0 (false_from_ne_true _ (λ p.
      let p' = and_parts _ _ p in
      let out : has_channel channels channel ≡ true = subst (λ n. has_channel channels n ≡ true) (eqb-true _ _ p'.1) (carries.in_service i h (and_parts _ _ p'.0).0) in
      cc))) in
      omega (arith, none)

  counted_somewhere : (i : ℕ) → i < length rows → (b : Bool) → runs rows set moment i ≡ b → cond b 1 0 ≤ sum_below (length channels) (λ channel. cond (runs_on rows set assignment moment i channel) 1 0)
  counted_somewhere i h false e = omega arith
  counted_somewhere i h true e =
      let found = carries.in_service i h (and_parts _ _ e).0 in
      let term = sum_below-term (length channels) (λ channel. cond (runs_on rows set assignment moment i channel) 1 0) (assignment i) (has-lt channels (assignment i) found) in
      let same : runs_on rows set assignment moment i (assignment i) ≡ true = and_from _ _ e (eq-eqb (assignment i) (assignment i) refl) in
      omega (arith, term, cond-true {A = ℕ} (runs_on rows set assignment moment i (assignment i)) 1 0 same)

  -- at no moment do more rows of the set run than there are channels
  pub running-le-count : sum_below (length rows) (λ i. cond (runs rows set moment i) 1 0) ≤ count_of channels
  running-le-count =
      let on = λ (i channel : ℕ). cond (runs_on rows set assignment moment i channel) 1 0 in
      let each = sum_below-le (length rows) (λ i. cond (runs rows set moment i) 1 0) (λ i. sum_below (length channels) (on i)) (λ i h. counted_somewhere i h (runs rows set moment i) refl) in
      let ones = sum_below-le (length channels) (λ channel. sum_below (length rows) (λ i. on i channel)) (λ channel. cond (has_channel channels channel) 1 0) (λ channel h. one_per_channel channel (has_channel channels channel) refl) in
      omega (arith, each, sum_below-swap (length rows) (length channels) on, ones)

-- what the rows of the set cost, once by rows and once by prices
pub cost_by_prices : (rows : List Row) (set : ℕ → Bool) (prices : List Charge) (i : ℕ) (b : Bool) → set i ≡ b → cond b (cost_of prices (row_at rows i)) 0 ≡ sum_by (λ p. cond (runs rows set p.moment i) p.amount 0) prices
cost_by_prices rows set [] i true e = refl
cost_by_prices rows set [] i false e = refl
cost_by_prices rows set (p ∷ prices) i true e =
    let here : cond (runs rows set p.moment i) p.amount 0 ≡ cond (is_running (row_at rows i) p.moment) p.amount 0 = rw e in
    omega (arith, here, cost_by_prices rows set prices i true e, sum_by-cons (λ q. cond (runs rows set q.moment i) q.amount 0) p prices, sum_by-cons (λ q. cond (is_running (row_at rows i) q.moment) q.amount 0) p prices)
cost_by_prices rows set (p ∷ prices) i false e =
    let here : cond (runs rows set p.moment i) p.amount 0 ≡ 0 = rw e in
    omega (arith, here, cost_by_prices rows set prices i false e, sum_by-cons (λ q. cond (runs rows set q.moment i) q.amount 0) p prices)

cond-mul : (b : Bool) (a : ℕ) → cond b a 0 ≡ cond b 1 0 * a
cond-mul true a = omega arith
cond-mul false a = omega arith

module _ (rows : List Row) (channels : List Bool) (set : ℕ → Bool) (assignment : ℕ → ℕ) (carries : Carries rows channels set assignment) where
  pub one_price : (p : Charge) → sum_below (length rows) (λ i. cond (runs rows set p.moment i) p.amount 0) ≤ count_of channels * p.amount
  one_price p =
      let same = sum_below-same (length rows) (λ i. cond (runs rows set p.moment i) p.amount 0) (λ i. cond (runs rows set p.moment i) 1 0 * p.amount) (λ i h. cond-mul (runs rows set p.moment i) p.amount) in
      let out = sum_below-mul (length rows) (λ i. cond (runs rows set p.moment i) 1 0) p.amount in
      omega (arith, same, out, mul-le-mul_right p.amount (running-le-count rows channels set assignment carries p.moment))

  pub costs-le : (prices : List Charge) → sum_below (length rows) (λ i. cond (set i) (cost_of prices (row_at rows i)) 0) ≤ count_of channels * sum_of_prices prices
  costs-le prices =
      let same = sum_below-same (length rows) (λ i. cond (set i) (cost_of prices (row_at rows i)) 0) (λ i. sum_by (λ p. cond (runs rows set p.moment i) p.amount 0) prices) (λ i h. cost_by_prices rows set prices i (set i) refl) in
      let swapped = sum_below-sum_by (length rows) (λ i p. cond (runs rows set p.moment i) p.amount 0) prices in
      let each = sum_by-le_each (λ p. sum_below (length rows) (λ i. cond (runs rows set p.moment i) p.amount 0)) (λ p. count_of channels * p.amount) prices one_price in
      omega (arith, same, swapped, each, sum_by-mul (count_of channels) (λ p. p.amount) prices)

-- one row: what it pays in the set is at most its cost there and what it adds to the bound
pub one_row : (prices : List Charge) (row : Row) (in_set : Bool) → (row.must ≡ true → in_set ≡ true) → (m : Bool) → row.must ≡ m → cond in_set row.pay 0 + loss_of prices row ≤ cond in_set (cost_of prices row) 0 + gain_of prices row
one_row prices row true h true e = rw e (omega arith)
one_row prices row true h false e = rw e (omega arith)
one_row prices row false h true e = cc (h e)
one_row prices row false h false e = rw e (omega arith)

one_term : (prices : List Charge) (row : Row) (m : Bool) → row.must ≡ m → term_of prices row +ℤ pos (loss_of prices row) ≡ pos (gain_of prices row)
one_term prices row true e = rw e (omega (arith, ints))
one_term prices row false e = rw e (omega (arith, ints))

below_whole : (pay loss gain : ℕ) (whole : ℤ) → whole +ℤ pos loss ≡ pos gain → pay + loss ≤ gain → pos pay ≤ℤ whole
below_whole pay loss gain whole e h = omega (arith, ints)

-- the terms of the first n rows, as what they bring less what they take
pub terms_and_losses : (rows : List Row) (prices : List Charge) (n : ℕ) → sum_ints_below n (λ i. term_of prices (row_at rows i)) +ℤ pos (sum_below n (λ i. loss_of prices (row_at rows i))) ≡ pos (sum_below n (λ i. gain_of prices (row_at rows i)))
terms_and_losses rows prices zero = refl
terms_and_losses rows prices (suc n) = omega (arith, ints, terms_and_losses rows prices n, one_term prices (row_at rows n) (row_at rows n).must refl)

-- the bound, as what the rows bring and the channels cost, less what the rows take
pub bound_and_losses : (rows : List Row) (count : ℕ) (prices : List Charge) → bound_of rows count prices +ℤ pos (sum_below (length rows) (λ i. loss_of prices (row_at rows i))) ≡ pos (count * sum_of_prices prices + sum_below (length rows) (λ i. gain_of prices (row_at rows i)))
bound_and_losses rows count prices = omega (arith, ints, terms_and_losses rows prices (length rows))

-- no lawful set pays more than the bound
pub pay-le-bound : (rows : List Row) (channels : List Bool) (prices : List Charge) (set : ℕ → Bool) → IsLawful rows channels set → pos (pay_of rows set) ≤ℤ bound_of rows (count_of channels) prices
pay-le-bound rows channels prices set lawful =
    let n = length rows in
    let pays = λ (i : ℕ). cond (set i) (row_at rows i).pay 0 in
    let losses = λ (i : ℕ). loss_of prices (row_at rows i) in
    let costs = λ (i : ℕ). cond (set i) (cost_of prices (row_at rows i)) 0 in
    let gains = λ (i : ℕ). gain_of prices (row_at rows i) in
    let rowwise = sum_below-le n (λ i. pays i + losses i) (λ i. costs i + gains i) (λ i h. one_row prices (row_at rows i) (set i) (lawful.has_musts i h) (row_at rows i).must refl) in
    let enough : pay_of rows set + sum_below n losses ≤ count_of channels * sum_of_prices prices + sum_below n gains = omega (arith, rowwise, sum_below-add n pays losses, sum_below-add n costs gains, costs-le rows channels set lawful.carried.0 lawful.carried.1 prices) in
    below_whole (pay_of rows set) (sum_below n losses) (count_of channels * sum_of_prices prices + sum_below n gains) (bound_of rows (count_of channels) prices) (bound_and_losses rows (count_of channels) prices) enough

one_loss : (prices : List Charge) (row : Row) (in_set : Bool) → (row.must ≡ true → in_set ≡ true) → (m : Bool) → row.must ≡ m → loss_of prices row ≤ cond in_set (cost_of prices row) 0
one_loss prices row true h true e = rw e (omega arith)
one_loss prices row true h false e = rw e (omega arith)
one_loss prices row false h true e = cc (h e)
one_loss prices row false h false e = rw e (omega arith)

-- where some set is lawful, the must rows of a prefix cost no more than all channels at all prices
pub losses-le : (rows : List Row) (channels : List Bool) (prices : List Charge) (set : ℕ → Bool) → IsLawful rows channels set → (m : ℕ) → m ≤ length rows → sum_below m (λ i. loss_of prices (row_at rows i)) ≤ count_of channels * sum_of_prices prices
losses-le rows channels prices set lawful m h =
    let n = length rows in
    let rowwise = sum_below-le n (λ i. loss_of prices (row_at rows i)) (λ i. cond (set i) (cost_of prices (row_at rows i)) 0) (λ i b. one_loss prices (row_at rows i) (set i) (lawful.has_musts i b) (row_at rows i).must refl) in
    omega (arith, rowwise, sum_below-more m n (λ i. loss_of prices (row_at rows i)) h, costs-le rows channels set lawful.carried.0 lawful.carried.1 prices)
