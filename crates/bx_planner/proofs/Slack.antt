-- Where prices are tight for a set with all must rows, which never has more rows running than the count, the bound is what
-- the set pays: the converse of complementary slackness.
use Rattle.std.proofs.Common.{◌≡◌, ℕ, ◌+◌, ◌*◌, ◌<◌, ◌≤◌, Bool, true, cond, List, [], ◌∷◌, length, get_or, refl, arith, inl, inr}
use Rattle.std.specs.Prelude.{pos}
use Rattle.std.specs.List.{All, sum_by}
use Rattle.std.proofs.lemmas.Bool.{cases_lt}
use Rattle.std.proofs.lemmas.List.Sums.{sum_by-cons}
use Rattle.std.proofs.lemmas.List.Elements.{All-head, All-tail}
use Rattle.bx_base.specs.Sums.{sum_below}
use Rattle.bx_base.specs.Bookings.{Row, row_at, pay_of}
use Rattle.bx_base.specs.Bound.{Charge, sum_of_prices, cost_of, bound_of}
use Rattle.bx_base.specs.Sides.{gain_of, loss_of}
use Rattle.bx_base.proofs.SumLemmas.{sum_below-same, sum_below-add, sum_by-mul}
use Rattle.bx_base.proofs.Duality.{bound_and_losses}
use Rattle.bx_planner.specs.Tight.{runs_at, AreTightPrices}
use Rattle.bx_planner.proofs.Tightness.{at_price, price_counts, costs_by_prices}
use Rattle.bx_planner.proofs.Exact.{one_exact, exact_whole}

same_by : (f g : Charge → ℕ) (xs : List Charge) → All (λ p. f p ≡ g p) xs → sum_by f xs ≡ sum_by g xs
same_by f g [] h = refl
same_by f g (x ∷ xs) h = omega (arith, All-head (λ p. f p ≡ g p) x xs h, same_by f g xs (All-tail (λ p. f p ≡ g p) x xs h), sum_by-cons f x xs, sum_by-cons g x xs)

whole_price : (running count a : ℕ) → running ≤ count → (running < count → a ≡ 0) → running * a ≡ count * a
whole_price running count a enough free =
    elim (cases_lt running count) [
      | inl h ↦ (let e = free h in rw e (omega arith))
      | inr h ↦ (let e : running ≡ count = omega (arith, enough, h) in rw e refl)
    ]

pub bound_from_tight : (rows : List Row) (count : ℕ) (set : ℕ → Bool) (prices : List Charge) → ((t : ℕ) → runs_at rows set t ≤ count) → ((i : ℕ) → i < length rows → (row_at rows i).must ≡ true → set i ≡ true) → AreTightPrices rows count set prices → bound_of rows count prices ≡ pos (pay_of rows set)
bound_from_tight rows count set prices enough musts tight =
    let n = length rows in
    let pays : ℕ → ℕ = λ i. cond (set i) (row_at rows i).pay 0 in
    let losses : ℕ → ℕ = λ i. loss_of prices (row_at rows i) in
    let cost : ℕ → ℕ = λ i. cond (set i) (cost_of prices (row_at rows i)) 0 in
    let gains : ℕ → ℕ = λ i. gain_of prices (row_at rows i) in
    let rowwise = sum_below-same n (λ i. pays i + losses i) (λ i. cost i + gains i) (λ i h. one_exact prices (row_at rows i) (set i) (musts i h) (λ free s. tight.taken i h free s) (λ free s. tight.left i h free s) (row_at rows i).must refl) in
    let all = same_by (at_price rows count set enough) (λ p. count * p.amount) prices (λ k d b.
    let p = get_or prices k d in
    let counted = price_counts rows count set enough p in
    let whole = whole_price (runs_at rows set p.moment) count p.amount (enough p.moment) (tight.idle k d b) in
    omega (arith, counted, whole)) in
    let by_prices = costs_by_prices rows count set enough prices in
    let scaled = sum_by-mul count (λ (p : Charge). p.amount) prices in
    let whole : pay_of rows set + sum_below n losses ≡ count * sum_of_prices prices + sum_below n gains = omega (arith, rowwise, sum_below-add n pays losses, sum_below-add n cost gains, by_prices, all, scaled) in
    exact_whole (pay_of rows set) (sum_below n losses) (count * sum_of_prices prices + sum_below n gains) (bound_of rows count prices) (bound_and_losses rows count prices) whole
