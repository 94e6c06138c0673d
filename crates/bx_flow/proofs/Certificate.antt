-- A flow with fitting potentials is of least cost. Let the potentials fall by price v in the gap v. A row's arc falls
-- by the sum over the gaps that it spans. All units cross each gap, idle or with a row, so over any flow the falls of
-- its rows and of its idle units come to the same sum. Idle units of a flow with fitting potentials fall nothing; its
-- rows fall no more than they pay, and other rows no less. So no flow of as many units pays more.
use Rattle.std.proofs.Common.{zero, suc, ◌≡◌, ℕ, ◌+◌, ◌-◌, ◌*◌, ◌<◌, ◌≤◌, Bool, true, false, cond, ◌&&◌, List, length, refl, subst, arith}
use Rattle.std.specs.Prelude.{ℤ, pos, neg_ℤ, ◌+ℤ◌, ◌-ℤ◌, ◌≤ℤ◌, nat_abs}
use Rattle.std.proofs.lemmas.Int.{ints}
use Rattle.bx_base.specs.Sums.{sum_below}
use Rattle.bx_base.proofs.SumLemmas.{sum_below-le, sum_below-add, sum_below-same, sum_below-swap, sum_below-mul, sum_below-zero}
use Rattle.bx_line.specs.Network.{Network, IsNetwork, places_of, gaps_of, arc_at, spans}
use Rattle.bx_line.specs.Flows.{Flow, IsFlow, CrossesEachGap, carries_unit, idle_at, crossing_at}
use Rattle.bx_line.proofs.Crossings.{crosses_from_flow}
use Rattle.bx_dist.specs.Residual.{Fits, IsInPart, height_at, row_arc}
use Rattle.bx_dist.specs.declared.part.Part.{Part}
use Rattle.bx_dist.specs.declared.part.Part.TheVariants.{Whole}
use Rattle.bx_dist.specs.declared.step.Step.TheVariants.{Idle, Back, Take, Give}
use Rattle.bx_flow.specs.Costs.{paid_by, IsLeastCost}
use Rattle.bx_flow.proofs.Falls.{spanned}

pub both : (b x : Bool) (a : ℕ) → cond (b && x) 1 0 * a ≡ cond b (cond x a 0) 0
both true true a = omega arith
both true false a = omega arith
both false x a = omega arith

pub sum_of_cond : (n : ℕ) (b : Bool) (f : ℕ → ℕ) → sum_below n (λ v. cond b (f v) 0) ≡ cond b (sum_below n f) 0
sum_of_cond n true f = refl
sum_of_cond n false f = sum_below-zero n (λ v. 0) (λ v h. refl)

split : (units idle crossed a : ℕ) → idle + crossed ≡ units → units * a ≡ idle * a + crossed * a
split units idle crossed a e = rw (← e) (omega arith)

module _ (line : Network) (price : ℕ → ℕ) where
  -- by how much the potentials fall along the arc of a row
  abbrev pub fall_of : ℕ → ℕ
  fall_of i = sum_below (gaps_of line) (λ v. cond (spans (arc_at line i) v) (price v) 0)

  abbrev pub row_falls : Flow → ℕ
  row_falls flow = sum_below (length line.arcs) (λ i. cond (carries_unit flow i) (fall_of i) 0)

  abbrev pub idle_falls : Flow → ℕ
  idle_falls flow = sum_below (gaps_of line) (λ v. idle_at flow v * price v)

  at_gap : (flow : Flow) → CrossesEachGap line flow → (v : ℕ) → v < gaps_of line → flow.units * price v ≡ idle_at flow v * price v + sum_below (length line.arcs) (λ i. cond (carries_unit flow i) (cond (spans (arc_at line i) v) (price v) 0) 0)
  at_gap flow crosses v h =
      let n = length line.arcs in
      let parts = split flow.units (idle_at flow v) (crossing_at line flow v) (price v) (crosses.crosses v (omega arith)) in
      let out = sum_below-mul n (λ i. cond (carries_unit flow i && spans (arc_at line i) v) 1 0) (price v) in
      let each = sum_below-same n (λ i. cond (carries_unit flow i && spans (arc_at line i) v) 1 0 * price v) (λ i. cond (carries_unit flow i) (cond (spans (arc_at line i) v) (price v) 0) 0) (λ i b. both (carries_unit flow i) (spans (arc_at line i) v) (price v)) in
      omega (arith, parts, out, each)

  -- the falls of all units of a flow
  pub all_falls : (flow : Flow) → CrossesEachGap line flow → sum_below (gaps_of line) (λ v. flow.units * price v) ≡ idle_falls flow + row_falls flow
  all_falls flow crosses =
      let gaps = gaps_of line in
      let n = length line.arcs in
      let term = λ (v i : ℕ). cond (carries_unit flow i) (cond (spans (arc_at line i) v) (price v) 0) 0 in
      let each = sum_below-same gaps (λ v. flow.units * price v) (λ v. idle_at flow v * price v + sum_below n (term v)) (at_gap flow crosses) in
      let apart = sum_below-add gaps (λ v. idle_at flow v * price v) (λ v. sum_below n (term v)) in
      let swapped = sum_below-swap gaps n term in
      let inner = sum_below-same n (λ i. sum_below gaps (λ v. term v i)) (λ i. cond (carries_unit flow i) (fall_of i) 0) (λ i h. sum_of_cond gaps (carries_unit flow i) (λ v. cond (spans (arc_at line i) v) (price v) 0)) in
      omega (arith, each, apart, swapped, inner)

  -- prices that leave no slack to a flow
  pub record IsTight (flow : Flow) : Type 0 where
    pub idle : (v : ℕ) → v < gaps_of line → idle_at flow v * price v ≡ 0
    pub taken : (i : ℕ) → i < length line.arcs → carries_unit flow i ≡ true → fall_of i ≤ (arc_at line i).pay
    pub left : (i : ℕ) → i < length line.arcs → carries_unit flow i ≡ false → (arc_at line i).pay ≤ fall_of i

  one_row : (f g : Bool) (pay fall : ℕ) → (f ≡ true → fall ≤ pay) → (f ≡ false → pay ≤ fall) → cond g pay 0 + cond f fall 0 ≤ cond f pay 0 + cond g fall 0
  one_row true true pay fall t l = omega arith
  one_row true false pay fall t l = let h = t refl in omega arith
  one_row false true pay fall t l = let h = l refl in omega arith
  one_row false false pay fall t l = omega arith

  pub tight_pays_most : (flow other : Flow) → CrossesEachGap line flow → CrossesEachGap line other → other.units ≡ flow.units → IsTight flow → paid_by line other ≤ paid_by line flow
  tight_pays_most flow other crosses crosses' same tight =
      let n = length line.arcs in
      let pays = λ (f : Flow) (i : ℕ). cond (carries_unit f i) (arc_at line i).pay 0 in
      let falls = λ (f : Flow) (i : ℕ). cond (carries_unit f i) (fall_of i) 0 in
      let rowwise = sum_below-le n (λ i. pays other i + falls flow i) (λ i. pays flow i + falls other i) (λ i h. one_row (carries_unit flow i) (carries_unit other i) (arc_at line i).pay (fall_of i) (tight.taken i h) (tight.left i h)) in
      let none = sum_below-zero (gaps_of line) (λ v. idle_at flow v * price v) tight.idle in
      let units = sum_below-same (gaps_of line) (λ v. other.units * price v) (λ v. flow.units * price v) (λ v h. rw same refl) in
      omega (arith, rowwise, sum_below-add n (pays other) (falls flow), sum_below-add n (pays flow) (falls other), all_falls flow crosses, all_falls other crosses', none, units)

ends_differ : (first from to : ℤ) (a b fall : ℕ) → first ≡ (from +ℤ pos a) → first ≡ (to +ℤ pos b) → fall + a ≡ b → from ≡ (to +ℤ pos fall)
ends_differ first from to a b fall p q e = omega (arith, ints)

step_down : (first here next : ℤ) (a b : ℕ) → first ≡ (here +ℤ pos a) → here ≡ (next +ℤ pos b) → first ≡ (next +ℤ pos (a + b))
step_down first here next a b p q = omega (arith, ints)

idle_none : (idle price : ℕ) → (0 < idle → price ≡ 0) → idle * price ≡ 0
idle_none zero price h = omega arith
idle_none (suc idle) price h = let e = h (omega arith) in rw e (omega arith)

falls_by : (here next : ℤ) → next ≤ℤ (here +ℤ pos 0) → here ≡ (next +ℤ pos (nat_abs (here -ℤ next)))
falls_by here next p = omega (arith, ints)

no_fall : (here next : ℤ) → next ≤ℤ (here +ℤ pos 0) → here ≤ℤ (next +ℤ pos 0) → nat_abs (here -ℤ next) ≡ 0
no_fall here next p q = omega (arith, ints)

taken_row : (from to : ℤ) (pay fall : ℕ) → from ≡ (to +ℤ pos fall) → from ≤ℤ (to +ℤ pos pay) → fall ≤ pay
taken_row from to pay fall e h = omega (arith, ints)

left_row : (from to : ℤ) (pay fall : ℕ) → from ≡ (to +ℤ pos fall) → to ≤ℤ (from +ℤ neg_ℤ (pos pay)) → pay ≤ fall
left_row from to pay fall e h = omega (arith, ints)

costs_less : (other this : ℕ) → other ≤ this → neg_ℤ (pos this) ≤ℤ neg_ℤ (pos other)
costs_less other this h = omega (arith, ints)

-- by how much the potentials fall in a gap
abbrev pub price_of : List ℤ → ℕ → ℕ
price_of heights v = nat_abs (height_at heights v -ℤ height_at heights (v + 1))

-- what heights that fit fall by, gap by gap and row by row
module _ (part : Part) (line : Network) (flow : Flow) (heights : List ℤ) (network : IsNetwork line) (fits : Fits part line flow heights) where
  gap_falls : (v : ℕ) → v + 1 < places_of line → height_at heights v ≡ (height_at heights (v + 1) +ℤ pos (price_of heights v))
  gap_falls v h = falls_by (height_at heights v) (height_at heights (v + 1)) (fits (Idle v) h)

  pub before : (n : ℕ) → n < places_of line → height_at heights 0 ≡ (height_at heights n +ℤ pos (sum_below n (price_of heights)))
  before zero h = omega (arith, ints)
  before (suc n) h =
      let e : n + 1 ≡ suc n = omega arith in
      let step : height_at heights n ≡ (height_at heights (suc n) +ℤ pos (price_of heights n)) = subst (λ (m : ℕ). height_at heights n ≡ (height_at heights m +ℤ pos (price_of heights n))) e (gap_falls n (omega arith)) in
      step_down (height_at heights 0) (height_at heights n) (height_at heights (suc n)) (sum_below n (price_of heights)) (price_of heights n) (before n (omega arith)) step

  -- along a row's arc the potentials fall by what they fall in the gaps that it spans
  arc_falls : (i : ℕ) → i < length line.arcs → height_at heights (arc_at line i).from ≡ (height_at heights (arc_at line i).to +ℤ pos (fall_of line (price_of heights) i))
  arc_falls i h =
      let arc = arc_at line i in
      let limits = network.arcs i h in
      let whole = spanned (price_of heights) arc.from arc.to (omega (arith, limits.rising)) (gaps_of line) (omega (arith, limits.within)) in
      ends_differ (height_at heights 0) (height_at heights arc.from) (height_at heights arc.to) (sum_below arc.from (price_of heights)) (sum_below arc.to (price_of heights)) (fall_of line (price_of heights) i) (before arc.from (omega (arith, limits.rising, limits.within))) (before arc.to (omega (arith, limits.within))) whole

  pub idle_tight : (v : ℕ) → v < gaps_of line → idle_at flow v * price_of heights v ≡ 0
  idle_tight v h = idle_none (idle_at flow v) (price_of heights v) (λ some. no_fall (height_at heights v) (height_at heights (v + 1)) (fits (Idle v) (omega arith)) (fits (Back v) (omega arith, some)))

  given : (r : ℕ) → 1 ≤ r → r ≤ length line.arcs → IsInPart part (row_arc line r) → carries_unit flow (r - 1) ≡ true → fall_of line (price_of heights) (r - 1) ≤ (row_arc line r).pay
  given r named within in_part carried = taken_row _ _ (row_arc line r).pay (fall_of line (price_of heights) (r - 1)) (arc_falls (r - 1) (omega arith)) (fits (Give r) (record { there = record { named = named; within = within; in_part = in_part }; state = carried }))

  taken : (r : ℕ) → 1 ≤ r → r ≤ length line.arcs → IsInPart part (row_arc line r) → carries_unit flow (r - 1) ≡ false → (row_arc line r).pay ≤ fall_of line (price_of heights) (r - 1)
  taken r named within in_part left = left_row _ _ (row_arc line r).pay (fall_of line (price_of heights) (r - 1)) (arc_falls (r - 1) (omega arith)) (fits (Take r) (record { there = record { named = named; within = within; in_part = in_part }; state = left }))

  pub row_taken : (i : ℕ) → i < length line.arcs → IsInPart part (arc_at line i) → carries_unit flow i ≡ true → fall_of line (price_of heights) i ≤ (arc_at line i).pay
  row_taken i h = let e : i + 1 - 1 ≡ i = omega arith in rw e at (given (i + 1) (omega arith) (omega arith))

  pub row_left : (i : ℕ) → i < length line.arcs → IsInPart part (arc_at line i) → carries_unit flow i ≡ false → (arc_at line i).pay ≤ fall_of line (price_of heights) i
  row_left i h = let e : i + 1 - 1 ≡ i = omega arith in rw e at (taken (i + 1) (omega arith) (omega arith))

-- a flow whose residual network has fitting potentials is of least cost
pub fitting-least : (line : Network) (flow : Flow) (heights : List ℤ) → IsNetwork line → IsFlow line flow → Fits Whole line flow heights → IsLeastCost line flow
fitting-least line flow heights network is_flow fits =
    record {
      is_flow = is_flow;
      least = λ other its same.
          let tight : IsTight line (price_of heights) flow = record {
            idle = idle_tight Whole line flow heights network fits;
            taken = λ i h. row_taken Whole line flow heights network fits i h tt;
            left = λ i h. row_left Whole line flow heights network fits i h tt;
          } in
          let most = tight_pays_most line (price_of heights) flow other (crosses_from_flow line flow network is_flow) (crosses_from_flow line other network its) same tight in
          costs_less (paid_by line other) (paid_by line flow) most;
    }
