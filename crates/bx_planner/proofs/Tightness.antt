-- Where the bound of charges is what a set pays, nothing is lost on the way: no charge where a channel is free, and each
-- free row costs no more than it pays in the set, and no less outside it.
use Rattle.std.proofs.Common.{◌≡◌, ℕ, ◌+◌, ◌-◌, ◌*◌, ◌<◌, ◌≤◌, Bool, true, false, cond, List, length, get_or, refl, arith}
use Rattle.std.specs.Prelude.{ℤ, pos, ◌+ℤ◌}
use Rattle.std.specs.List.{All, sum_by}
use Rattle.std.proofs.lemmas.Int.{ints}
use Rattle.std.proofs.Math.Nat.{mul-le-mul_right}
use Rattle.bx_base.specs.Sums.{sum_below}
use Rattle.bx_base.specs.Bookings.{Row, row_at, pay_of}
use Rattle.bx_base.specs.Bound.{Charge, sum_of_prices, cost_of, bound_of, Proves}
use Rattle.bx_base.specs.Sides.{gain_of, loss_of}
use Rattle.bx_base.proofs.SumLemmas.{sum_below-add, sum_below-mul, sum_below-same, sum_below-sum_by, sum_by-le_each, sum_by-mul, sum_below-same_terms, sum_by-same_terms}
use Rattle.bx_base.specs.Channels.{count_of}
use Rattle.bx_base.proofs.Duality.{runs, cost_by_prices, one_row, bound_and_losses, running-le-count}
use Rattle.bx_planner.specs.Tight.{runs_at, AreTightPrices}

cond-mul : (b : Bool) (a : ℕ) → cond b a 0 ≡ cond b 1 0 * a
cond-mul true a = omega arith
cond-mul false a = omega arith

no_amount : (running count a : ℕ) → running * a ≡ count * a → running < count → a ≡ 0
no_amount running count a e h =
    let d = count - running - 1 in
    let s : count ≡ running + 1 + d = omega arith in
    let t : running * a ≡ (running + 1 + d) * a = rw (← s) e in
    omega (arith, t)

exact_parts : (pay loss whole : ℕ) (bound : ℤ) → bound +ℤ pos loss ≡ pos whole → bound ≡ pos pay → pay + loss ≡ whole
exact_parts pay loss whole bound e h = omega (arith, ints)

taken_of : (prices : List Charge) (row : Row) (in_set : Bool) → row.must ≡ false → in_set ≡ true → cond in_set row.pay 0 + loss_of prices row ≡ cond in_set (cost_of prices row) 0 + gain_of prices row → cost_of prices row ≤ row.pay
taken_of prices row true m s e = let f = (rw m at e) in omega (arith, f)
taken_of prices row false m s e = cc s

left_of : (prices : List Charge) (row : Row) (in_set : Bool) → row.must ≡ false → in_set ≡ false → cond in_set row.pay 0 + loss_of prices row ≡ cond in_set (cost_of prices row) 0 + gain_of prices row → row.pay ≤ cost_of prices row
left_of prices row true m s e = cc s
left_of prices row false m s e = let f = (rw m at e) in omega (arith, f)

module _ (rows : List Row) (count : ℕ) (set : ℕ → Bool) (enough : (t : ℕ) → runs_at rows set t ≤ count) where
  -- what the rows of the set pay at one price
  abbrev pub at_price : Charge → ℕ
  at_price p = sum_below (length rows) (λ i. cond (runs rows set p.moment i) p.amount 0)

  pub price_counts : (p : Charge) → at_price p ≡ runs_at rows set p.moment * p.amount
  price_counts p =
      let same = sum_below-same (length rows) (λ i. cond (runs rows set p.moment i) p.amount 0) (λ i. cond (runs rows set p.moment i) 1 0 * p.amount) (λ i h. cond-mul (runs rows set p.moment i) p.amount) in
      let out = sum_below-mul (length rows) (λ i. cond (runs rows set p.moment i) 1 0) p.amount in
      omega (arith, same, out)

  price_most : (p : Charge) → at_price p ≤ count * p.amount
  price_most p = omega (arith, price_counts p, mul-le-mul_right p.amount (enough p.moment))

  abbrev pub costs : List Charge → ℕ → ℕ
  costs prices i = cond (set i) (cost_of prices (row_at rows i)) 0

  pub costs_by_prices : (prices : List Charge) → sum_below (length rows) (costs prices) ≡ sum_by at_price prices
  costs_by_prices prices =
      let same = sum_below-same (length rows) (costs prices) (λ i. sum_by (λ p. cond (runs rows set p.moment i) p.amount 0) prices) (λ i h. cost_by_prices rows set prices i (set i) refl) in
      let swapped = sum_below-sum_by (length rows) (λ i p. cond (runs rows set p.moment i) p.amount 0) prices in
      omega (arith, same, swapped)

  all_most : (prices : List Charge) → sum_by at_price prices ≤ count * sum_of_prices prices
  all_most prices =
      let each = sum_by-le_each at_price (λ p. count * p.amount) prices price_most in
      omega (arith, each, sum_by-mul count (λ (p : Charge). p.amount) prices)

  module _ (prices : List Charge) (musts : (i : ℕ) → i < length rows → (row_at rows i).must ≡ true → set i ≡ true) (exact : bound_of rows count prices ≡ pos (pay_of rows set)) where
    abbrev pays : ℕ → ℕ
    pays i = cond (set i) (row_at rows i).pay 0

    abbrev losses : ℕ → ℕ
    losses i = loss_of prices (row_at rows i)

    abbrev gains : ℕ → ℕ
    gains i = gain_of prices (row_at rows i)

    whole : sum_below (length rows) pays + sum_below (length rows) losses ≡ count * sum_of_prices prices + sum_below (length rows) gains
    whole = exact_parts (sum_below (length rows) pays) (sum_below (length rows) losses) (count * sum_of_prices prices + sum_below (length rows) gains) (bound_of rows count prices) (bound_and_losses rows count prices) exact

    row_most : (i : ℕ) → i < length rows → pays i + losses i ≤ costs prices i + gains i
    row_most i h = one_row prices (row_at rows i) (set i) (musts i h) (row_at rows i).must refl

    row_same : (i : ℕ) → i < length rows → pays i + losses i ≡ costs prices i + gains i
    row_same =
        let n = length rows in
        sum_below-same_terms n (λ i. pays i + losses i) (λ i. costs prices i + gains i) row_most (omega (arith, whole, sum_below-add n pays losses, sum_below-add n (costs prices) gains, costs_by_prices prices, all_most prices))

    enough_costs : sum_by (λ (p : Charge). count * p.amount) prices ≤ sum_by at_price prices
    enough_costs =
        let n = length rows in
        let rowwise = sum_below-same n (λ i. pays i + losses i) (λ i. costs prices i + gains i) row_same in
        omega (arith, whole, rowwise, sum_below-add n pays losses, sum_below-add n (costs prices) gains, costs_by_prices prices, sum_by-mul count (λ (p : Charge). p.amount) prices)

    no_charge_where_free : All (λ p. runs_at rows set p.moment < count → p.amount ≡ 0) prices
    no_charge_where_free k d b h =
        let p = get_or prices k d in
        let same = sum_by-same_terms at_price (λ p. count * p.amount) prices price_most enough_costs k d b in
        no_amount (runs_at rows set p.moment) count p.amount (omega (arith, same, price_counts p)) h

    pub tight : AreTightPrices rows count set prices
    tight = record {
      idle = no_charge_where_free;
      taken = λ i h free s. taken_of prices (row_at rows i) (set i) free s (row_same i h);
      left = λ i h free s. left_of prices (row_at rows i) (set i) free s (row_same i h);
    }

-- prices that prove a set are tight for it: as many of it run as its channels carry
pub proof_is_tight : (rows : List Row) (channels : List Bool) (prices : List Charge) (set : ℕ → Bool) → Proves rows channels prices set → AreTightPrices rows (count_of channels) set prices
proof_is_tight rows channels prices set proves =
    tight rows (count_of channels) set (λ t. running-le-count rows channels set proves.lawful.carried.0 proves.lawful.carried.1 t) prices proves.lawful.has_musts proves.exact
