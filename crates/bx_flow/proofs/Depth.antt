-- A walk that meets no place twice takes no row twice. So it is no shorter than all free rows together pay.
use Rattle.std.proofs.Common.{zero, suc, ◌≡◌, ℕ, ◌+◌, ◌-◌, ◌<◌, ◌≤◌, Bool, true, false, cond, eqb, List, [], ◌∷◌, length, sym, ◌∙◌, ap, subst, arith, ◌⊎◌, inl, inr}
use Rattle.std.specs.Prelude.{ℤ, pos, neg_ℤ, ◌+ℤ◌, ◌≤ℤ◌}
use Rattle.std.proofs.lemmas.Int.{ints}
use Rattle.std.proofs.lemmas.Bool.{cases_lt}
use Rattle.std.proofs.lemmas.Bool.Decides.{nat_tests}
use Rattle.bx_base.specs.Sums.{sum_below}
use Rattle.bx_base.proofs.SumLemmas.{sum_below-same}
use Rattle.bx_line.specs.Network.{Network, places_of, arc_at}
use Rattle.bx_line.specs.Flows.{Flow}
use Rattle.bx_dist.specs.declared.part.Part.TheVariants.{Free}
use Rattle.bx_dist.specs.declared.step.Step.{Step}
use Rattle.bx_dist.specs.declared.step.Step.TheVariants.{Idle, Back, Take, Give}
use Rattle.bx_dist.specs.Residual.{row_arc, step_to, height_at}
use Rattle.bx_dist.specs.Walks.{IsWalk, walk_length, AreDistances, Lengths}
use Rattle.bx_dist.specs.Inside.{Avoids, IsSimple}
use Rattle.bx_dist.proofs.Simple.{simple_from_pairs}
use Rattle.bx_flow.specs.Costs.{free_pays}

-- a budget without its entry k
abbrev without : ℕ → (ℕ → ℕ) → ℕ → ℕ
without k w i = cond (eqb i k) 0 (w i)

cond_apart : (i k a : ℕ) → (i ≡ k → ⊥) → ◌≡◌ {A = ℕ} (cond (eqb i k) 0 a) a
cond_apart i k a h = grind (arith, nat_tests)

cond_same : (i k a : ℕ) → i ≡ k → ◌≡◌ {A = ℕ} (cond (eqb i k) 0 a) 0
cond_same i k a h = grind (arith, nat_tests)

sum_without : (n : ℕ) (w : ℕ → ℕ) (k : ℕ) → k < n → sum_below n w ≡ sum_below n (without k w) + w k
sum_without zero w k h = absurd (omega arith)
sum_without (suc n) w k h =
    elim (cases_lt k n) [
      | inl a ↦ omega (arith, sum_without n w k a, cond_apart n k (w n) (λ e. omega (arith, e, a)))
      | inr a ↦ (
          let e : n ≡ k = omega arith in
          let before = sum_below-same n w (without k w) (λ i b. sym (cond_apart i k (w i) (λ s. omega (arith, s, b, e)))) in
          let moved = ap w e in
          omega (arith, before, cond_same n k (w n) e, moved))
    ]

-- the budget has what each free row pays whose start the walk meets
abbrev Covers : Network → (ℕ → ℕ) → ℕ → List Step → Type 0
Covers line w from walk = (i : ℕ) → i < length line.arcs → (arc_at line i).must ≡ false → Avoids line (arc_at line i).from from walk ⊎ ((arc_at line i).pay ≤ w i)

onward : (line : Network) (w : ℕ → ℕ) (from : ℕ) (step : Step) (walk : List Step) → Covers line w from (step ∷ walk) → Covers line w (step_to line step) walk
onward line w from step walk covers i h m = elim (covers i h m) [ inl a ↦ inl a.1 | inr b ↦ inr b ]

covered : (line : Network) (w : ℕ → ℕ) (from : ℕ) (step : Step) (walk : List Step) → Covers line w from (step ∷ walk) → (i : ℕ) → i < length line.arcs → (arc_at line i).must ≡ false → (arc_at line i).from ≡ from → (arc_at line i).pay ≤ w i
covered line w from step walk covers i h m e = elim (covers i h m) [ inl a ↦ absurd (a.0 e) | inr b ↦ b ]

kept : (line : Network) (w : ℕ → ℕ) (from : ℕ) (step : Step) (walk : List Step) → Covers line w from (step ∷ walk) → (k i : ℕ) → i < length line.arcs → (arc_at line i).must ≡ false → (i ≡ k → ⊥) → Avoids line (arc_at line i).from (step_to line step) walk ⊎ ((arc_at line i).pay ≤ without k w i)
kept line w from step walk covers k i h m apart = elim (covers i h m) [ inl a ↦ inl a.1 | inr b ↦ inr (subst (λ (x : ℕ). (arc_at line i).pay ≤ x) (sym (cond_apart i k (w i) apart)) b) ]

less_budget : (line : Network) (w : ℕ → ℕ) (from : ℕ) (step : Step) (walk : List Step) → Covers line w from (step ∷ walk) → (k : ℕ) → (arc_at line k).from ≡ from → Avoids line from (step_to line step) walk → Covers line (without k w) (step_to line step) walk
less_budget line w from step walk covers k e avoids i h m =
    elim (cases_lt i k) [
      | inl a ↦ kept line w from step walk covers k i h m (λ s. omega (arith, s, a))
      | inr a ↦ elim (cases_lt k i) [
        | inl b ↦ kept line w from step walk covers k i h m (λ s. omega (arith, s, b))
        | inr b ↦ (let s : i ≡ k = omega arith in inl (subst (λ (x : ℕ). Avoids line x (step_to line step) walk) (sym (ap (λ (j : ℕ). (arc_at line j).from) s ∙ e)) avoids))
      ]
    ]

spend : (rest : ℤ) (all less pay here : ℕ) → neg_ℤ (pos less) ≤ℤ rest → all ≡ less + here → pay ≤ here → neg_ℤ (pos all) ≤ℤ (neg_ℤ (pos pay) +ℤ rest)
spend rest all less pay here p q r = omega (arith, ints)

gain : (rest : ℤ) (all pay : ℕ) → neg_ℤ (pos all) ≤ℤ rest → neg_ℤ (pos all) ≤ℤ (pos pay +ℤ rest)
gain rest all pay p = omega (arith, ints)

deep : (line : Network) (flow : Flow) (w : ℕ → ℕ) (from to : ℕ) (walk : List Step) → IsWalk Free line flow from to walk → IsSimple line from walk → Covers line w from walk → neg_ℤ (pos (sum_below (length line.arcs) w)) ≤ℤ walk_length line walk
deep line flow w from to [] leads simple covers = omega (arith, ints)
deep line flow w from to (Idle v ∷ walk) leads simple covers = gain (walk_length line walk) (sum_below (length line.arcs) w) 0 (deep line flow w (v + 1) to walk leads.2 simple.1 (onward line w from (Idle v) walk covers))
deep line flow w from to (Back v ∷ walk) leads simple covers = gain (walk_length line walk) (sum_below (length line.arcs) w) 0 (deep line flow w v to walk leads.2 simple.1 (onward line w from (Back v) walk covers))
deep line flow w from to (Give r ∷ walk) leads simple covers = gain (walk_length line walk) (sum_below (length line.arcs) w) (row_arc line r).pay (deep line flow w (row_arc line r).from to walk leads.2 simple.1 (onward line w from (Give r) walk covers))
deep line flow w from to (Take r ∷ walk) leads simple covers =
    let there = leads.0.there in
    let within : r - 1 < length line.arcs = omega (arith, there.named, there.within) in
    let rest = deep line flow (without (r - 1) w) (row_arc line r).to to walk leads.2 simple.1 (less_budget line w from (Take r) walk covers (r - 1) leads.1 simple.0) in
    spend (walk_length line walk) (sum_below (length line.arcs) w) (sum_below (length line.arcs) (without (r - 1) w)) (row_arc line r).pay (w (r - 1)) rest (sum_without (length line.arcs) w (r - 1) within) (covered line w from (Take r) walk covers (r - 1) within there.in_part leads.1)

whole_budget : (must : Bool) (pay : ℕ) → must ≡ false → pay ≤ cond must 0 pay
whole_budget true pay e = cc
whole_budget false pay e = omega arith

-- the last distance without must rows
pub last_is_deep : (line : Network) (flow : Flow) (d : Lengths) → AreDistances Free line flow d → neg_ℤ (pos (free_pays line)) ≤ℤ height_at d.lengths (places_of line - 1)
last_is_deep line flow d distances =
    let walked = deep line flow (λ i. cond (arc_at line i).must 0 (arc_at line i).pay) 0 (places_of line - 1) d.walk distances.path.leads (simple_from_pairs line 0 d.walk distances.path.once) (λ i h m. inr (whole_budget (arc_at line i).must (arc_at line i).pay m)) in
    subst (λ (z : ℤ). neg_ℤ (pos (free_pays line)) ≤ℤ z) distances.shortest walked
