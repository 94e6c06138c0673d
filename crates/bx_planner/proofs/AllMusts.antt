-- A flow of least cost carries all must rows, where at no moment more of them run than there are units.
use Rattle.std.proofs.Common.{◌≡◌, ℕ, zero, suc, ◌+◌, ◌-◌, ◌*◌, ◌<◌, ◌≤◌, Bool, true, false, cond, ◌&&◌, List, length, map, get_or, refl, sym, arith, inl, inr}
use Rattle.std.specs.Prelude.{pos, neg_ℤ, ◌≤ℤ◌}
use Rattle.std.proofs.lemmas.Int.{ints}
use Rattle.std.proofs.lemmas.Bool.{cases_lt}
use Rattle.std.proofs.lemmas.List.{get_or-map, length-map}
use Rattle.std.proofs.lemmas.List.FromFn.{get_or-map-range_with_len, length-map-range_with_len}
use Rattle.std.specs.List.{range_with_len}
use Rattle.bx_base.specs.Sums.{sum_below}
use Rattle.bx_base.proofs.SumLemmas.{sum_below-le, sum_below-same, sum_below-add}
use Rattle.bx_base.specs.Bookings.{Row, row_at, is_running, AreBookings}
use Rattle.bx_colour.specs.Colouring.{is_in}
use Rattle.bx_line.specs.declared.arc.Arc.{Arc}
use Rattle.bx_line.specs.Network.{Network, IsNetwork, AreArcsOf, places_of, gaps_of, arc_at, no_arc, spans}
use Rattle.bx_line.specs.Flows.{Flow, flow_of, carries_unit, idle_at, crossing_at, CrossesEachGap}
use Rattle.bx_line.proofs.Crossings.{flow_from_crosses}
use Rattle.bx_flow.specs.Costs.{paid_by, IsLeastCost}
use Rattle.bx_planner.specs.Musts.{musts_at}
use Rattle.bx_planner.proofs.Placed.{running_crosses}

-- where one term is less by so much, and no other is more, so is the sum
pub short_sum : (n : ℕ) (f g : ℕ → ℕ) (k c : ℕ) → ((i : ℕ) → i < n → f i ≤ g i) → k < n → f k + c ≤ g k → sum_below n f + c ≤ sum_below n g
short_sum zero f g k c h b s = absurd (omega arith)
short_sum (suc n) f g k c h b s =
    elim (cases_lt k n) [
      | inl a ↦ (let before = short_sum n f g k c (λ i l. h i (omega arith)) a s in let here = h n (omega arith) in omega (arith, before, here))
      | inr a ↦ (let e : k ≡ n = omega arith in let before = sum_below-le n f g (λ i l. h i (omega arith)) in let here : f n + c ≤ g n = rw e at s in omega (arith, before, here))
    ]

pub sum_of_few : (n : ℕ) (f : ℕ → ℕ) (c : ℕ) → ((i : ℕ) → i < n → f i ≤ c) → sum_below n f ≤ n * c
sum_of_few zero f c h = omega arith
sum_of_few (suc n) f c h = let before = sum_of_few n f c (λ i b. h i (omega arith)) in let here = h n (omega arith) in let e : suc n * c ≡ n * c + c = omega arith in omega (arith, before, here, e)

-- how many must rows span a gap
abbrev musts_cross : Network → ℕ → ℕ
musts_cross line v = sum_below (length line.arcs) (λ i. cond ((arc_at line i).must && spans (arc_at line i) v) 1 0)

-- the flow that carries just the must rows
abbrev musts_flow : Network → ℕ → Flow
musts_flow line units = flow_of (map (λ (a : Arc). a.must) line.arcs) (map (λ (v : ℕ). units - musts_cross line v) (range_with_len 0 (gaps_of line))) units

carried_musts : (line : Network) (units i : ℕ) → i < length line.arcs → carries_unit (musts_flow line units) i ≡ (arc_at line i).must
carried_musts line units i h = get_or-map (λ (a : Arc). a.must) line.arcs i no_arc false h

idle_musts : (line : Network) (units v : ℕ) → v < gaps_of line → idle_at (musts_flow line units) v ≡ units - musts_cross line v
idle_musts line units v h = get_or-map-range_with_len (λ (v : ℕ). units - musts_cross line v) 0 (gaps_of line) v v 0 h (omega arith)

crossing_musts : (line : Network) (units v : ℕ) → crossing_at line (musts_flow line units) v ≡ musts_cross line v
crossing_musts line units v =
    sum_below-same (length line.arcs) (λ i. cond (carries_unit (musts_flow line units) i && spans (arc_at line i) v) 1 0) (λ i. cond ((arc_at line i).must && spans (arc_at line i) v) 1 0) (λ i h. rw (carried_musts line units i h) refl)

pays_within : (carried must : Bool) (pay arc : ℕ) → arc ≡ cond must (pay + 17000000000000) pay → cond carried arc 0 ≤ cond must 17000000000000 0 + pay
pays_within true true pay arc e = omega (arith, e)
pays_within true false pay arc e = omega (arith, e)
pays_within false must pay arc e = omega arith

must_pays : (must : Bool) (pay arc : ℕ) → arc ≡ cond must (pay + 17000000000000) pay → cond must 17000000000000 0 ≤ cond must arc 0
must_pays true pay arc e = omega (arith, e)
must_pays false pay arc e = omega arith

paid_order : (this other : ℕ) → neg_ℤ (pos this) ≤ℤ neg_ℤ (pos other) → other ≤ this
paid_order this other h = omega (arith, ints)

module _ (rows : List Row) (line : Network) (network : IsNetwork line) (bookings : AreBookings rows) (arcs : AreArcsOf line.moments rows line.arcs) (units : ℕ) (room : (s : ℕ) → musts_at rows s ≤ units) (some : 0 < places_of line) where
  cross_few : (v : ℕ) → v < places_of line → musts_cross line v ≤ units
  cross_few v b =
      let flow = musts_flow line units in
      let here = running_crosses rows line network arcs flow v b in
      let same = sum_below-same (length rows) (λ i. cond (is_in flow.accepted i && is_running (row_at rows i) (get_or line.moments v 0)) 1 0) (λ i. cond ((row_at rows i).must && is_running (row_at rows i) (get_or line.moments v 0)) 1 0) (λ i h. rw (carried_musts line units i (omega (arith, h, arcs.one_each)), (arcs.each i h).must) refl) in
      omega (arith, here, same, crossing_musts line units v, room (get_or line.moments v 0))

  musts_cross_each : CrossesEachGap line (musts_flow line units)
  musts_cross_each =
      record {
        sized = record { rows = length-map line.arcs (λ (a : Arc). a.must); gaps = length-map-range_with_len (λ (v : ℕ). units - musts_cross line v) 0 (gaps_of line) };
        crosses = λ v h. omega (arith, idle_musts line units v (omega arith), crossing_musts line units v, cross_few v (omega arith));
        no_gap = λ few. let two = network.two_ends some in absurd (omega (arith, two, few));
      }

  left_out : (flow : Flow) → IsLeastCost line flow → flow.units ≡ units → (k : ℕ) → k < length rows → (row_at rows k).must ≡ true → carries_unit flow k ≡ false → ⊥
  left_out flow least same k h must left =
      let n = length line.arcs in
      let pays = λ (i : ℕ). cond (carries_unit flow i) (arc_at line i).pay 0 in
      let raise : ℕ → ℕ = λ i. cond (row_at rows i).must 17000000000000 0 in
      let pay = λ (i : ℕ). (row_at rows i).pay in
      let within = λ (i : ℕ) (b : i < n). pays_within (carries_unit flow i) (row_at rows i).must (row_at rows i).pay (arc_at line i).pay (arcs.each i (omega (arith, b, arcs.one_each))).pay in
      let here : pays k + 17000000000000 ≤ raise k + pay k = rw (left, must) (omega arith) in
      let short = short_sum n pays (λ i. raise i + pay i) k 17000000000000 within (omega (arith, h, arcs.one_each)) here in
      let low = sum_of_few n pay 1000000000 (λ i b. (bookings.each i (omega (arith, b, arcs.one_each))).pay_limit) in
      let mine = sum_below-le n raise (λ i. cond (carries_unit (musts_flow line units) i) (arc_at line i).pay 0) (λ i b. rw (carried_musts line units i b, (arcs.each i (omega (arith, b, arcs.one_each))).must) (must_pays (row_at rows i).must (row_at rows i).pay (arc_at line i).pay (arcs.each i (omega (arith, b, arcs.one_each))).pay)) in
      let other = paid_order (paid_by line flow) (paid_by line (musts_flow line units)) (least.least (musts_flow line units) (flow_from_crosses line (musts_flow line units) network musts_cross_each) (sym same)) in
      omega (arith, short, sum_below-add n raise pay, low, mine, other, arcs.one_each, bookings.few)

  by_cases : (flow : Flow) → IsLeastCost line flow → flow.units ≡ units → (k : ℕ) → k < length rows → (row_at rows k).must ≡ true → (b : Bool) → carries_unit flow k ≡ b → carries_unit flow k ≡ true
  by_cases flow least same k h must true e = e
  by_cases flow least same k h must false e = absurd (left_out flow least same k h must e)

  pub all_musts : (flow : Flow) → IsLeastCost line flow → flow.units ≡ units → (k : ℕ) → k < length rows → (row_at rows k).must ≡ true → carries_unit flow k ≡ true
  all_musts flow least same k h must = by_cases flow least same k h must (carries_unit flow k) refl
