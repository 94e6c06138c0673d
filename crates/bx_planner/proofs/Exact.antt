-- The bound that the falls of the distances set is what the rows of the flow pay.
use Rattle.std.proofs.Common.{◌≡◌, ℕ, ◌+◌, ◌*◌, ◌<◌, ◌≤◌, Bool, true, false, cond, List, length, get_or, refl, ◌∙◌, ap, arith, inl, inr}
use Rattle.std.specs.Prelude.{ℤ, pos, ◌+ℤ◌}
use Rattle.std.proofs.lemmas.Int.{ints}
use Rattle.std.proofs.lemmas.Bool.{cases_lt}
use Rattle.bx_base.specs.Sums.{sum_below}
use Rattle.bx_base.proofs.SumLemmas.{sum_below-same, sum_below-add, sum_below-mul, sum_below-zero}
use Rattle.bx_base.specs.Bookings.{Row, row_at, is_running, pay_of}
use Rattle.bx_base.specs.Bound.{Charge, sum_of_prices, cost_of, bound_of}
use Rattle.bx_base.specs.Sides.{gain_of, loss_of}
use Rattle.bx_base.proofs.Duality.{bound_and_losses}
use Rattle.bx_line.specs.Network.{Network, IsNetwork, AreArcsOf, places_of, gaps_of, arc_at, spans}
use Rattle.bx_line.specs.Flows.{Flow, CrossesEachGap, carries_unit, idle_at}
use Rattle.bx_dist.specs.Residual.{Fits}
use Rattle.bx_dist.specs.declared.part.Part.TheVariants.{Free}
use Rattle.bx_flow.proofs.Certificate.{fall_of, all_falls, idle_tight, row_taken, row_left}
use Rattle.bx_planner.specs.Prices.{fall_at, charges}
use Rattle.bx_planner.proofs.Placed.{runs_where_spans}
use Rattle.bx_planner.proofs.Priced.{sum_of_charges}

none_of : (b : Bool) (a : ℕ) → a ≡ 0 → ◌≡◌ {A = ℕ} (cond b a 0) 0
none_of true a e = e
none_of false a e = refl

pub one_exact : (prices : List Charge) (row : Row) (in_set : Bool) → (row.must ≡ true → in_set ≡ true) → (row.must ≡ false → in_set ≡ true → cost_of prices row ≤ row.pay) → (row.must ≡ false → in_set ≡ false → row.pay ≤ cost_of prices row) → (m : Bool) → row.must ≡ m → cond in_set row.pay 0 + loss_of prices row ≡ cond in_set (cost_of prices row) 0 + gain_of prices row
one_exact prices row true h t l true e = rw e (omega arith)
one_exact prices row true h t l false e = let k = t e refl in rw e (omega (arith, k))
one_exact prices row false h t l true e = cc (h e)
one_exact prices row false h t l false e = let k = l e refl in rw e (omega (arith, k))

pub exact_whole : (pay loss whole : ℕ) (bound : ℤ) → bound +ℤ pos loss ≡ pos whole → pay + loss ≡ whole → bound ≡ pos pay
exact_whole pay loss whole bound e h = omega (arith, ints)

module _ (rows : List Row) (line : Network) (flow : Flow) (heights : List ℤ) (network : IsNetwork line) (arcs : AreArcsOf line.moments rows line.arcs) (crosses : CrossesEachGap line flow) (fits : Fits Free line flow heights) where
  cost_is_fall : (i : ℕ) → i < length rows → cost_of (charges line.moments heights (gaps_of line)) (row_at rows i) ≡ fall_of line (fall_at heights) i
  cost_is_fall i h =
      let row = row_at rows i in
      let gaps = gaps_of line in
      let listed = sum_of_charges (λ p. cond (is_running row p.moment) p.amount 0) (λ p e. none_of (is_running row p.moment) p.amount e) line.moments heights gaps in
      let each = sum_below-same gaps (λ v. cond (is_running row (get_or line.moments v 0)) (fall_at heights v) 0) (λ v. cond (spans (arc_at line i) v) (fall_at heights v) 0) (λ v b. rw (runs_where_spans rows line network arcs i v h (omega arith)) refl) in
      listed ∙ each

  sum_is_falls : sum_of_prices (charges line.moments heights (gaps_of line)) ≡ sum_below (gaps_of line) (fall_at heights)
  sum_is_falls = sum_of_charges (λ p. p.amount) (λ p e. e) line.moments heights (gaps_of line)

  -- all units at all prices cost what the rows of the flow cost
  units_cost : flow.units * sum_of_prices (charges line.moments heights (gaps_of line)) ≡ sum_below (length rows) (λ i. cond (carries_unit flow i) (cost_of (charges line.moments heights (gaps_of line)) (row_at rows i)) 0)
  units_cost =
      let gaps = gaps_of line in
      let price = fall_at heights in
      let prices = charges line.moments heights gaps in
      let turned = sum_below-same gaps (λ v. flow.units * price v) (λ v. price v * flow.units) (λ v h. omega arith) in
      let out = sum_below-mul gaps price flow.units in
      let whole = all_falls line price flow crosses in
      let idle = sum_below-zero gaps (λ v. idle_at flow v * price v) (idle_tight Free line flow heights network fits) in
      let row_costs = sum_below-same (length rows) (λ i. cond (carries_unit flow i) (fall_of line price i) 0) (λ i. cond (carries_unit flow i) (cost_of prices (row_at rows i)) 0) (λ i h. rw (cost_is_fall i h) refl) in
      let sized = ap (λ (n : ℕ). sum_below n (λ i. cond (carries_unit flow i) (fall_of line price i) 0)) arcs.one_each in
      let scaled : flow.units * sum_of_prices prices ≡ sum_below gaps price * flow.units = rw sum_is_falls (omega arith) in
      omega (arith, turned, out, whole, idle, row_costs, sized, scaled)

  count_or_none : (count : ℕ) → (0 < places_of line → flow.units ≡ count) → count * sum_of_prices (charges line.moments heights (gaps_of line)) ≡ flow.units * sum_of_prices (charges line.moments heights (gaps_of line))
  count_or_none count same =
      elim (cases_lt 0 (places_of line)) [
        | inl a ↦ rw (same a) refl
        | inr a ↦ (
            let empty : gaps_of line ≡ 0 = omega arith in
            let none : sum_below (gaps_of line) (fall_at heights) ≡ 0 = ap (λ (n : ℕ). sum_below n (fall_at heights)) empty in
            let zero_sum = sum_is_falls ∙ none in
            rw zero_sum (omega arith))
      ]

  free_pay : (i : ℕ) → i < length rows → (row_at rows i).must ≡ false → (arc_at line i).pay ≡ (row_at rows i).pay
  free_pay i h free = let a = (arcs.each i h).pay in a ∙ rw free refl

  exact_row : (i : ℕ) → i < length rows → ((row_at rows i).must ≡ true → carries_unit flow i ≡ true) → cond (carries_unit flow i) (row_at rows i).pay 0 + loss_of (charges line.moments heights (gaps_of line)) (row_at rows i) ≡ cond (carries_unit flow i) (cost_of (charges line.moments heights (gaps_of line)) (row_at rows i)) 0 + gain_of (charges line.moments heights (gaps_of line)) (row_at rows i)
  exact_row i h musts =
      let within : i < length line.arcs = omega (arith, h, arcs.one_each) in
      let must = (arcs.each i h).must in
      one_exact (charges line.moments heights (gaps_of line)) (row_at rows i) (carries_unit flow i) musts
      (λ free carried. let fit = row_taken Free line flow heights network fits i within (must ∙ free) carried in omega (arith, fit, cost_is_fall i h, free_pay i h free))
      (λ free left. let fit = row_left Free line flow heights network fits i within (must ∙ free) left in omega (arith, fit, cost_is_fall i h, free_pay i h free))
      (row_at rows i).must refl

  pub bound_is_pay : (count : ℕ) → (0 < places_of line → flow.units ≡ count) → ((i : ℕ) → i < length rows → (row_at rows i).must ≡ true → carries_unit flow i ≡ true) → bound_of rows count (charges line.moments heights (gaps_of line)) ≡ pos (pay_of rows (carries_unit flow))
  bound_is_pay count same musts =
      let n = length rows in
      let prices = charges line.moments heights (gaps_of line) in
      let pays : ℕ → ℕ = λ i. cond (carries_unit flow i) (row_at rows i).pay 0 in
      let losses : ℕ → ℕ = λ i. loss_of prices (row_at rows i) in
      let costs : ℕ → ℕ = λ i. cond (carries_unit flow i) (cost_of prices (row_at rows i)) 0 in
      let gains : ℕ → ℕ = λ i. gain_of prices (row_at rows i) in
      let rowwise = sum_below-same n (λ i. pays i + losses i) (λ i. costs i + gains i) (λ i h. exact_row i h (musts i h)) in
      let enough : pay_of rows (carries_unit flow) + sum_below n losses ≡ count * sum_of_prices prices + sum_below n gains = omega (arith, rowwise, sum_below-add n pays losses, sum_below-add n costs gains, units_cost, count_or_none count same) in
      exact_whole (pay_of rows (carries_unit flow)) (sum_below n losses) (count * sum_of_prices prices + sum_below n gains) (bound_of rows count prices) (bound_and_losses rows count prices) enough
