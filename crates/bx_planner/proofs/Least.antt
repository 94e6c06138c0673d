-- The prices from distances are the least. Of any charges whose bound is what the rows of the flow pay, minus the sum
-- before a place rises along a step of the residual network by no more than the step costs. So by induction on walks
-- that sum is no less than minus the distance, which is what the prices from the distances come to.
use Rattle.std.proofs.Common.{◌≡◌, ℕ, ◌+◌, ◌-◌, ◌<◌, ◌≤◌, true, false, cond, ◌&&◌, List, [], ◌∷◌, length, get_or, refl, sym, ◌∙◌, ap, subst, arith, inl, inr}
use Rattle.std.specs.Prelude.{ℤ, pos, neg_ℤ, ◌+ℤ◌, ◌≤ℤ◌}
use Rattle.std.proofs.lemmas.Int.{ints}
use Rattle.std.proofs.lemmas.Bool.{cases_lt}
use Rattle.std.proofs.lemmas.List.{get_or_default}
use Rattle.bx_base.specs.Sums.{sum_below}
use Rattle.bx_base.proofs.SumLemmas.{sum_below-same}
use Rattle.bx_base.proofs.Duality.{runs}
use Rattle.bx_base.specs.Bookings.{Row, row_at, is_running, pay_of, AreBookings}
use Rattle.bx_base.specs.Bound.{Charge, cost_of, sum_of_prices}
use Rattle.bx_line.specs.Moments.{IsMoment, HasJustMoments}
use Rattle.bx_line.specs.Network.{Network, IsNetwork, AreArcsOf, places_of, gaps_of, arc_at, spans}
use Rattle.bx_line.specs.Flows.{Flow, CrossesEachGap, carries_unit, idle_at, crossing_at}
use Rattle.bx_line.proofs.MomentLemmas.{never_falls}
use Rattle.bx_dist.specs.Residual.{IsOpen, step_from, step_to, step_cost, height_at, row_arc}
use Rattle.bx_dist.specs.Walks.{IsWalk, walk_length, AreLeast}
use Rattle.bx_dist.specs.declared.part.Part.{Part}
use Rattle.bx_dist.specs.declared.part.Part.TheVariants.{Free}
use Rattle.bx_dist.specs.declared.step.Step.{Step}
use Rattle.bx_dist.specs.declared.step.Step.TheVariants.{Idle, Back, Take, Give}
use Rattle.bx_dist.proofs.After.{distances_fit}
use Rattle.bx_planner.specs.Prices.{fall_at, charges}
use Rattle.bx_planner.specs.Inside.{IsLeastBound}
use Rattle.bx_planner.specs.Tight.{runs_at, AreTightPrices}
use Rattle.bx_planner.proofs.Tightness.{tight}
use Rattle.bx_planner.proofs.Placed.{same_tests}
use Rattle.bx_flow.proofs.Certificate.{before}
use Rattle.bx_planner.proofs.Priced.{sum_of_charges}
use Rattle.bx_check.specs.Before.{sum_before}
use Rattle.bx_check.proofs.Before.{cost_between}
use Rattle.bx_planner.proofs.Before.{before_rises, before_whole, before_same, charges_before}

-- heights of any kind rise along a walk by no more than it costs, where they do along each step
pub walk_rises : (part : Part) (line : Network) (flow : Flow) (height : ℕ → ℤ) → ((step : Step) → IsOpen part line flow step → height (step_to line step) ≤ℤ (height (step_from line step) +ℤ step_cost line step)) → (from to : ℕ) (walk : List Step) → IsWalk part line flow from to walk → height to ≤ℤ (height from +ℤ walk_length line walk)
walk_rises part line flow height fits from to [] w = omega (arith, ints, ap height w)
walk_rises part line flow height fits from to (step ∷ walk) w =
    let rest = walk_rises part line flow height fits (step_to line step) to walk w.2 in
    let here = fits step w.0 in
    let start = ap height w.1 in
    omega (arith, ints, rest, here, start)

step_idle : (a b : ℕ) → a ≤ b → neg_ℤ (pos b) ≤ℤ (neg_ℤ (pos a) +ℤ pos 0)
step_idle a b h = omega (arith, ints)

step_take : (a b pay : ℕ) → a + pay ≤ b → neg_ℤ (pos b) ≤ℤ (neg_ℤ (pos a) +ℤ neg_ℤ (pos pay))
step_take a b pay h = omega (arith, ints)

step_give : (a b pay : ℕ) → b ≤ a + pay → neg_ℤ (pos a) ≤ℤ (neg_ℤ (pos b) +ℤ pos pay)
step_give a b pay h = omega (arith, ints)

falls_less : (first here : ℤ) (fallen sum start : ℕ) → first ≤ℤ pos 0 → first ≡ (here +ℤ pos fallen) → neg_ℤ (pos sum) ≤ℤ (neg_ℤ (pos start) +ℤ here) → fallen ≤ sum
falls_less first here fallen sum start a b c = omega (arith, ints)

module _ (rows : List Row) (line : Network) (flow : Flow) (network : IsNetwork line) (arcs : AreArcsOf line.moments rows line.arcs) where
  runs_in_gap : (i v m : ℕ) → i < length rows → v + 1 < places_of line → get_or line.moments v 0 ≤ m → m < get_or line.moments (v + 1) 0 → is_running (row_at rows i) m ≡ spans (arc_at line i) v
  runs_in_gap i v m h b low high =
      let arc = arc_at line i in
      let a = arcs.each i h in
      same_tests arc.from v (row_at rows i).start m (row_at rows i).end arc.to
      (λ k. let x = never_falls line.moments network.rising arc.from v k (omega arith) in omega (arith, x, a.from, low))
      (λ k. let x = never_falls line.moments network.rising (v + 1) arc.from (omega arith) a.from_within in omega (arith, x, a.from, high))
      (λ k. let x = never_falls line.moments network.rising (v + 1) arc.to (omega arith) a.to_within in omega (arith, x, a.to, high))
      (λ k. let x = never_falls line.moments network.rising arc.to v k (omega arith) in omega (arith, x, a.to, low))

  -- at each moment inside a gap, the rows of the flow that run are those that cross the gap
  running_in_gap : (v m : ℕ) → v + 1 < places_of line → get_or line.moments v 0 ≤ m → m < get_or line.moments (v + 1) 0 → runs_at rows (carries_unit flow) m ≡ crossing_at line flow v
  running_in_gap v m b low high =
      let same = sum_below-same (length rows) (λ i. cond (runs rows (carries_unit flow) m i) 1 0) (λ i. cond (carries_unit flow i && spans (arc_at line i) v) 1 0) (λ i h. rw (runs_in_gap i v m h b low high) refl) in
      same ∙ ap (λ (n : ℕ). sum_below n (λ i. cond (carries_unit flow i && spans (arc_at line i) v) 1 0)) (sym arcs.one_each)

  module _ (count : ℕ) (crosses : CrossesEachGap line flow) (same : 0 < places_of line → flow.units ≡ count) (bookings : AreBookings rows) (other : List Charge) (is_tight : AreTightPrices rows count (carries_unit flow) other) where
    -- what the charges come to before a place
    abbrev sum_at : ℕ → ℕ
    sum_at v = sum_before other (get_or line.moments v 0)

    gap_rises : (v : ℕ) → v + 1 < places_of line → sum_at v ≤ sum_at (v + 1)
    gap_rises v h = before_rises other (get_or line.moments v 0) (get_or line.moments (v + 1) 0) (never_falls line.moments network.rising v (v + 1) (omega arith) h)

    idle_free : (v : ℕ) → v + 1 < places_of line → 0 < idle_at flow v → sum_at (v + 1) ≤ sum_at v
    idle_free v h idle =
        let s = get_or line.moments v 0 in
        let e = get_or line.moments (v + 1) 0 in
        before_same other s e (never_falls line.moments network.rising v (v + 1) (omega arith) h)
        (λ k d b low high. is_tight.idle k d b (omega (arith, running_in_gap v (get_or other k d).moment h low high, crosses.crosses v h, same (omega arith), idle)))

    row_sums : (i : ℕ) → i < length rows → cost_of other (row_at rows i) + sum_at (arc_at line i).from ≡ sum_at (arc_at line i).to
    row_sums i h =
        let a = arcs.each i h in
        let k = bookings.each i h in
        let order = k.in_order in
        let whole = cost_between other (row_at rows i) (omega (arith, order)) in
        let start = ap (λ (t : ℕ). sum_before other t) a.from in
        let end = ap (λ (t : ℕ). sum_before other t) a.to in
        omega (arith, whole, start, end)

    free_pay : (i : ℕ) → i < length rows → (arc_at line i).must ≡ false → (arc_at line i).pay ≡ (row_at rows i).pay
    free_pay i h free = let a = arcs.each i h in let m = sym a.must ∙ free in a.pay ∙ rw m refl

    row_taken : (i : ℕ) → i < length rows → (arc_at line i).must ≡ false → carries_unit flow i ≡ true → sum_at (arc_at line i).to ≤ sum_at (arc_at line i).from + (arc_at line i).pay
    row_taken i h free s = let a = arcs.each i h in omega (arith, is_tight.taken i h (sym a.must ∙ free) s, row_sums i h, free_pay i h free)

    row_left : (i : ℕ) → i < length rows → (arc_at line i).must ≡ false → carries_unit flow i ≡ false → sum_at (arc_at line i).from + (arc_at line i).pay ≤ sum_at (arc_at line i).to
    row_left i h free s = let a = arcs.each i h in omega (arith, is_tight.left i h (sym a.must ∙ free) s, row_sums i h, free_pay i h free)

    -- minus what the charges come to before the places fits the residual network
    pub sums_fit : (step : Step) → IsOpen Free line flow step → neg_ℤ (pos (sum_at (step_to line step))) ≤ℤ (neg_ℤ (pos (sum_at (step_from line step))) +ℤ step_cost line step)
    sums_fit (Idle v) o = step_idle (sum_at v) (sum_at (v + 1)) (gap_rises v o)
    sums_fit (Back v) o = step_idle (sum_at (v + 1)) (sum_at v) (idle_free v o.0 o.1)
    sums_fit (Take r) o = step_take (sum_at (row_arc line r).from) (sum_at (row_arc line r).to) (row_arc line r).pay (row_left (r - 1) (omega (arith, o.there.named, o.there.within, arcs.one_each)) o.there.in_part o.state)
    sums_fit (Give r) o = step_give (sum_at (row_arc line r).from) (sum_at (row_arc line r).to) (row_arc line r).pay (row_taken (r - 1) (omega (arith, o.there.named, o.there.within, arcs.one_each)) o.there.in_part o.state)

    module _ (heights : List ℤ) (lengths : AreLeast Free line flow heights) where
      -- before each place the falls of the distances come to no more than the charges
      pub falls_most : (v : ℕ) → v < places_of line → sum_below v (fall_at heights) ≤ sum_at v
      falls_most v h =
          let r = lengths.reached v h in
          let up = walk_rises Free line flow (λ u. neg_ℤ (pos (sum_at u))) sums_fit 0 v r.0 r.1 in
          let some : 0 < places_of line = omega arith in
          falls_less (height_at heights 0) (height_at heights v) (sum_below v (fall_at heights)) (sum_at v) (sum_at 0) (lengths.least 0 [] some refl) (before Free line flow heights network (distances_fit Free line flow heights network lengths) v h) (subst (λ (z : ℤ). neg_ℤ (pos (sum_at v)) ≤ℤ (neg_ℤ (pos (sum_at 0)) +ℤ z)) r.2 up)

      least_before : HasJustMoments rows line.moments → (moment : ℕ) → IsMoment rows moment → sum_before (charges line.moments heights (gaps_of line)) moment ≤ sum_before other moment
      least_before just moment m =
          let c = (just moment).1 m in
          let is : get_or line.moments c.0 0 ≡ moment = get_or_default line.moments c.0 0 moment c.1 ∙ c.2 in
          let within : c.0 < length line.moments = c.1 in
          let own = charges_before line.moments heights network.rising (gaps_of line) c.0 (omega (arith, within)) (omega arith) within in
          let most = falls_most c.0 within in
          subst (λ (t : ℕ). sum_before (charges line.moments heights (gaps_of line)) t ≤ sum_before other t) is (omega (arith, own, most))

      least_whole : sum_of_prices (charges line.moments heights (gaps_of line)) ≤ sum_of_prices other
      least_whole =
          let falls = sum_of_charges (λ p. p.amount) (λ p e. e) line.moments heights (gaps_of line) in
          elim (cases_lt 0 (places_of line)) [
            | inl a ↦ omega (arith, falls, falls_most (gaps_of line) (omega arith), before_whole other (get_or line.moments (gaps_of line) 0))
            | inr a ↦ (
                let empty : gaps_of line ≡ 0 = omega arith in
                let none : sum_below (gaps_of line) (fall_at heights) ≡ 0 = ap (λ (n : ℕ). sum_below n (fall_at heights)) empty in
                omega (arith, falls, none))
          ]

  -- the prices from the distances are the least whose bound is what the rows of the flow pay
  pub least_bound : (heights : List ℤ) (count : ℕ) → AreBookings rows → CrossesEachGap line flow → (0 < places_of line → flow.units ≡ count) → AreLeast Free line flow heights → HasJustMoments rows line.moments → ((t : ℕ) → runs_at rows (carries_unit flow) t ≤ count) → ((i : ℕ) → i < length rows → (row_at rows i).must ≡ true → carries_unit flow i ≡ true) → IsLeastBound rows count (charges line.moments heights (gaps_of line)) (pay_of rows (carries_unit flow))
  least_bound heights count bookings crosses same lengths just enough musts =
      record {
        before = λ other exact. least_before count crosses same bookings other (tight rows count (carries_unit flow) enough other musts exact) heights lengths just;
        whole = λ other exact. least_whole count crosses same bookings other (tight rows count (carries_unit flow) enough other musts exact) heights lengths;
      }
