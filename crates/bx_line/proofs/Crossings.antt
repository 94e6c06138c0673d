-- Conservation at the places is the same as one count of units in each gap.
--
-- A row that is carried leads over the gap before a place or starts there, just where it leads over the gap after it or
-- ends there. So from gap to gap the count over the gap changes by what starts less what ends at the place between, and
-- conservation says that the idle units change by the opposite.
use Rattle.std.proofs.Common.{◌≡◌, ℕ, zero, suc, ◌+◌, ◌-◌, ◌<◌, Bool, true, false, cond, ◌&&◌, eqb, ltb, length, refl, ap, sym, ◌∙◌, subst, arith, inl, inr, add-one}
use Rattle.std.proofs.lemmas.Bool.{cases_lt, cond-true, cond-false, lt-ltb}
use Rattle.std.proofs.lemmas.Bool.Decides.{nat_tests}
use Rattle.bx_base.specs.Sums.{sum_below}
use Rattle.bx_base.proofs.SumLemmas.{sum_below-add, sum_below-same, sum_below-zero}
use Rattle.bx_line.specs.declared.arc.Arc.{Arc}
use Rattle.bx_line.specs.Network.{Network, IsNetwork, places_of, arc_at, spans}
use Rattle.bx_line.specs.Flows.{Flow, IsFlow, CrossesEachGap, carries_unit, idle_at, out_of, into, crossing_at}

-- how many carried rows start at a place, and how many end there
abbrev pub starts_at : Network → Flow → ℕ → ℕ
starts_at line flow v = sum_below (length line.arcs) (λ i. cond (carries_unit flow i && eqb (arc_at line i).from v) 1 0)

abbrev pub ends_at : Network → Flow → ℕ → ℕ
ends_at line flow v = sum_below (length line.arcs) (λ i. cond (carries_unit flow i && eqb (arc_at line i).to v) 1 0)

one_arc : (b : Bool) (arc : Arc) (v : ℕ) → arc.from < arc.to → cond (b && spans arc (v + 1)) 1 0 + cond (b && eqb arc.to (v + 1)) 1 0 ≡ cond (b && spans arc v) 1 0 + cond (b && eqb arc.from (v + 1)) 1 0
one_arc true arc v h = grind (arith, nat_tests)
one_arc false arc v h = refl

first_arc : (b : Bool) (arc : Arc) → arc.from < arc.to → ◌≡◌ {A = ℕ} (cond (b && spans arc 0) 1 0) (cond (b && eqb arc.from 0) 1 0)
first_arc true arc h = grind (arith, nat_tests)
first_arc false arc h = refl

last_arc : (b : Bool) (arc : Arc) (v : ℕ) → arc.from < arc.to → arc.to < v + 2 → ◌≡◌ {A = ℕ} (cond (b && spans arc v) 1 0) (cond (b && eqb arc.to (v + 1)) 1 0)
last_arc true arc v h l = grind (arith, nat_tests)
last_arc false arc v h l = refl

-- units on their way out of a place that is not the last, and into one that is not the first
out_is : (line : Network) (flow : Flow) (v : ℕ) → v + 1 < places_of line → out_of line flow v ≡ idle_at flow v + starts_at line flow v
out_is line flow v h =
    let gap = cond-true (ltb (v + 1) (places_of line)) (idle_at flow v) 0 (lt-ltb (v + 1) (places_of line) h) in
    omega (arith, gap)

into_is : (line : Network) (flow : Flow) (v : ℕ) → into line flow (v + 1) ≡ idle_at flow v + ends_at line flow (v + 1)
into_is line flow v =
    let gap = cond-true (ltb 0 (v + 1)) (idle_at flow (v + 1 - 1)) 0 (lt-ltb 0 (v + 1) (omega arith)) in
    let same : idle_at flow (v + 1 - 1) ≡ idle_at flow v = ap (idle_at flow) (omega arith) in
    omega (arith, gap, same)

module _ (line : Network) (flow : Flow) (network : IsNetwork line) where
  next_gap : (v : ℕ) → crossing_at line flow (v + 1) + ends_at line flow (v + 1) ≡ crossing_at line flow v + starts_at line flow (v + 1)
  next_gap v =
      let n = length line.arcs in
      let over = λ (u i : ℕ). cond {A = ℕ} (carries_unit flow i && spans (arc_at line i) u) 1 0 in
      let start = λ (i : ℕ). cond {A = ℕ} (carries_unit flow i && eqb (arc_at line i).from (v + 1)) 1 0 in
      let end = λ (i : ℕ). cond {A = ℕ} (carries_unit flow i && eqb (arc_at line i).to (v + 1)) 1 0 in
      let each = sum_below-same n (λ i. over (v + 1) i + end i) (λ i. over v i + start i) (λ i h. one_arc (carries_unit flow i) (arc_at line i) v (network.arcs i h).rising) in
      omega (arith, each, sum_below-add n (over (v + 1)) end, sum_below-add n (over v) start)

  first_gap : crossing_at line flow 0 ≡ starts_at line flow 0
  first_gap = sum_below-same (length line.arcs) (λ i. cond (carries_unit flow i && spans (arc_at line i) 0) 1 0) (λ i. cond (carries_unit flow i && eqb (arc_at line i).from 0) 1 0) (λ i h. first_arc (carries_unit flow i) (arc_at line i) (network.arcs i h).rising)

  last_gap : (v : ℕ) → places_of line ≡ v + 2 → crossing_at line flow v ≡ ends_at line flow (v + 1)
  last_gap v e = sum_below-same (length line.arcs) (λ i. cond (carries_unit flow i && spans (arc_at line i) v) 1 0) (λ i. cond (carries_unit flow i && eqb (arc_at line i).to (v + 1)) 1 0) (λ i h. last_arc (carries_unit flow i) (arc_at line i) v (network.arcs i h).rising (subst (λ n. (arc_at line i).to < n) e (network.arcs i h).within))

  -- a line with fewer than two places has no rows
  no_rows : places_of line < 2 → (i : ℕ) → i < length line.arcs → ⊥
  no_rows few i h = let arc = network.arcs i h in omega (arith, few, arc.rising, arc.within)

  crossed : IsFlow line flow → (v : ℕ) → v + 1 < places_of line → idle_at flow v + crossing_at line flow v ≡ flow.units
  crossed f zero h = omega (arith, out_is line flow 0 h, first_gap, f.leaves)
  crossed f (suc v) h =
      let before = crossed f v (omega arith) in
      let here : v + 1 + 1 < places_of line = omega arith in
      let kept = f.kept (v + 1) (omega arith) here in
      rw (← add-one) (omega (arith, before, kept, into_is line flow v, out_is line flow (v + 1) here, next_gap v))

  pub crosses_from_flow : IsFlow line flow → CrossesEachGap line flow
  crosses_from_flow f =
      record {
        sized = f.sized;
        crosses = crossed f;
        no_gap = λ few.
            let idle = cond-false (ltb (0 + 1) (places_of line)) (idle_at flow 0) 0 (grind (arith, nat_tests)) in
            let rows = sum_below-zero (length line.arcs) (λ i. cond (carries_unit flow i && eqb (arc_at line i).from 0) 1 0) (λ i h. absurd (no_rows few i h)) in
            omega (arith, f.leaves, idle, rows);
      }

  leaves_from_crosses : CrossesEachGap line flow → out_of line flow 0 ≡ flow.units
  leaves_from_crosses f =
      elim (cases_lt (places_of line) 2) [
        | inl few ↦ (
            let idle = cond-false (ltb (0 + 1) (places_of line)) (idle_at flow 0) 0 (grind (arith, nat_tests)) in
            let rows = sum_below-zero (length line.arcs) (λ i. cond (carries_unit flow i && eqb (arc_at line i).from 0) 1 0) (λ i h. absurd (no_rows few i h)) in
            omega (arith, f.no_gap few, idle, rows))
        | inr many ↦ omega (arith, out_is line flow 0 (omega arith), first_gap, f.crosses 0 (omega arith))
      ]

  reaches_from_crosses : CrossesEachGap line flow → into line flow (places_of line - 1) ≡ flow.units
  reaches_from_crosses f =
      elim (cases_lt (places_of line) 2) [
        | inl few ↦ (
            let idle = cond-false (ltb 0 (places_of line - 1)) (idle_at flow (places_of line - 1 - 1)) 0 (grind (arith, nat_tests)) in
            let rows = sum_below-zero (length line.arcs) (λ i. cond (carries_unit flow i && eqb (arc_at line i).to (places_of line - 1)) 1 0) (λ i h. absurd (no_rows few i h)) in
            omega (arith, f.no_gap few, idle, rows))
        | inr many ↦ (
            let v = places_of line - 2 in
            let last : places_of line - 1 ≡ v + 1 = omega arith in
            let size : places_of line ≡ v + 2 = omega arith in
            ap (into line flow) last ∙ (into_is line flow v ∙ omega (arith, last_gap v size, f.crosses v (omega arith))))
      ]

  kept_from_crosses : CrossesEachGap line flow → (v : ℕ) → 0 < v → v + 1 < places_of line → into line flow v ≡ out_of line flow v
  kept_from_crosses f v p h =
      let u = v - 1 in
      let e : v ≡ u + 1 = omega arith in
      let here : u + 1 + 1 < places_of line = omega arith in
      let before = f.crosses u (omega arith) in
      let after = f.crosses (u + 1) here in
      ap (into line flow) e ∙ (into_is line flow u ∙ (omega (arith, before, after, next_gap u) ∙ (sym (out_is line flow (u + 1) here) ∙ ap (out_of line flow) (sym e))))

  pub flow_from_crosses : CrossesEachGap line flow → IsFlow line flow
  flow_from_crosses f =
      record { sized = f.sized; leaves = leaves_from_crosses f; reaches = reaches_from_crosses f; kept = kept_from_crosses f }
