-- Counts of cliques rise by 0 or 1 from place to place, and from each row's start to its end.
use Rattle.std.proofs.Common.{zero, suc, ◌≡◌, ℕ, ◌+◌, ◌<◌, ◌≤◌, Bool, true, false, cond, ◌&&◌, ◌||◌, not, eqb, List, length, get_or, refl, ◌∙◌, subst, arith, inl, inr, ◌⊎◌}
use Rattle.std.proofs.lemmas.Bool.{cases_lt}
use Rattle.bx_base.proofs.SumLemmas.{sum_below-term}
use Rattle.bx_line.specs.declared.incidence.Incidence.{Incidence}
use Rattle.bx_line.specs.declared.incidence.Incidence.TheVariants.{Leaving, Arriving}
use Rattle.bx_line.specs.ByPlace.{row_place}
use Rattle.bx_line.specs.Network.{Network, IsNetwork, arc_at, places_of}
use Rattle.bx_line.specs.Cliques.{has_row, is_growing, cliques_below, AreCliques}
use Rattle.bx_line.proofs.CliqueLemmas.{same_row, some_counted, growing_next, below_next, at_most_one}

pub rise_few : (line : Network) (n : ℕ) → (cliques_below line n ≤ cliques_below line (n + 1)) × (cliques_below line (n + 1) ≤ cliques_below line n + 1)
rise_few line n = let few = at_most_one (is_growing line n && has_row Arriving line n) in (omega (arith, below_next line n, few), omega (arith, below_next line n, few))

pub never_fall : (line : Network) (a b : ℕ) → a ≤ b → cliques_below line a ≤ cliques_below line b
never_fall line a zero h = let e : a ≡ 0 = omega arith in rw e (omega arith)
never_fall line a (suc b) h =
    elim (cases_lt b a) [
      | inl c ↦ (let e : a ≡ suc b = omega arith in rw e (omega arith))
      | inr c ↦ (let s : b + 1 ≡ suc b = omega arith in let step = (rise_few line b).0 in omega (arith, never_fall line a b c, rw s at step))
    ]

-- a row is at its places
pub has_row-from : (side : Incidence) (line : Network) (i : ℕ) → i < length line.arcs → has_row side line (row_place side line.arcs i) ≡ true
has_row-from side line i h =
    let place = row_place side line.arcs i in
    let term = sum_below-term (length line.arcs) (λ k. cond (eqb (row_place side line.arcs k) place) 1 0) i h in
    let one = same_row place place refl in
    some_counted _ (omega (arith, term, one))

grown : (starts growing ends : Bool) → growing ≡ true → ends ≡ false → (starts || (growing && not ends)) ≡ true
grown true growing ends g e = refl
grown false growing ends g e = rw (g, e) refl

started : (starts rest : Bool) → starts ≡ true → (starts || rest) ≡ true
started starts rest s = rw s refl

-- after a start a set grows
pub start_grows : (line : Network) (from : ℕ) → has_row Leaving line from ≡ true → is_growing line (from + 1) ≡ true
start_grows line from starts = growing_next line from ∙ started (has_row Leaving line from) (is_growing line from && not (has_row Arriving line from)) starts

module _ (line : Network) (first : ℕ) (grows : is_growing line first ≡ true) where
  one_more : (m : ℕ) → first ≤ m → is_growing line m ≡ true → (b : Bool) → has_row Arriving line m ≡ b → (cliques_below line first < cliques_below line (suc m)) ⊎ (is_growing line (suc m) ≡ true)
  one_more m h growing true e =
      let s : m + 1 ≡ suc m = omega arith in
      let next : cliques_below line (suc m) ≡ cliques_below line m + 1 = subst (λ (k : ℕ). cliques_below line k ≡ cliques_below line m + 1) s (below_next line m ∙ rw (growing, e) refl) in
      inl (omega (arith, next, never_fall line first m h))
  one_more m h growing false e = inr (grown (has_row Leaving line m) (is_growing line m) (has_row Arriving line m) growing e)

  -- where a set grows, it grows on until one has ended
  pub ended_or_grows : (n : ℕ) → first ≤ n → (cliques_below line first < cliques_below line n) ⊎ (is_growing line n ≡ true)
  ended_or_grows zero h = let e : first ≡ 0 = omega arith in inr (rw e at grows)
  ended_or_grows (suc m) h =
      elim (cases_lt m first) [
        | inl a ↦ (let e : first ≡ suc m = omega arith in inr (rw e at grows))
        | inr a ↦ elim (ended_or_grows m a) [
          | inl b ↦ inl (omega (arith, b, never_fall line m (suc m) (omega arith)))
          | inr g ↦ one_more m a g (has_row Arriving line m) refl
        ]
      ]

  pub ends_apart : (to : ℕ) → first ≤ to → has_row Arriving line to ≡ true → cliques_below line first < cliques_below line (to + 1)
  ends_apart to h ends =
      elim (ended_or_grows to h) [
        | inl a ↦ omega (arith, a, never_fall line to (to + 1) (omega arith))
        | inr g ↦ (let next : cliques_below line (to + 1) ≡ cliques_below line to + 1 = below_next line to ∙ rw (g, ends) refl in omega (arith, next, never_fall line first to h))
      ]

-- no more have ended than places came before
pub few_below : (line : Network) (n : ℕ) → cliques_below line (n + 1) ≤ n
few_below line zero = omega (arith, below_next line 0)
few_below line (suc n) = let e : n + 1 ≡ suc n = omega arith in let before = rw e at (few_below line n) in omega (arith, before, (rise_few line (suc n)).1)

-- the counts never fall, and rise from each row's start to its end
module _ (line : Network) (counts : List ℕ) (cliques : AreCliques line counts) where
  pub counts_rise : (u v : ℕ) → u ≤ v → v < places_of line → get_or counts u 0 ≤ get_or counts v 0
  counts_rise u v h b = omega (arith, cliques.each u (omega arith), cliques.each v b, never_fall line (u + 1) (v + 1) (omega arith))

  pub rows_rise : (i : ℕ) → IsNetwork line → i < length line.arcs → get_or counts (arc_at line i).from 0 < get_or counts (arc_at line i).to 0
  rows_rise i network h =
      let arc = network.arcs i h in
      let grows = start_grows line (arc_at line i).from (has_row-from Leaving line i h) in
      let apart = ends_apart line ((arc_at line i).from + 1) grows (arc_at line i).to (omega (arith, arc.rising)) (has_row-from Arriving line i h) in
      omega (arith, apart, cliques.each (arc_at line i).from (omega (arith, arc.rising, arc.within)), cliques.each (arc_at line i).to arc.within)
