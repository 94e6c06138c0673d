-- Places counted by maximal sets of rows: what a chain tells of a place, and the sweep.
use Rattle.std.proofs.Common.{◌≡◌, ◌≢◌, ℕ, ◌+◌, ◌<◌, ◌≤◌, Bool, true, false, cond, ◌&&◌, ◌||◌, not, eqb, ltb, List, ◌∷◌, [], ◌++◌, length, get_or, Option, Some, None, is_some, refl, sym, ◌∙◌, ap, arith, inl, inr, add-one}
use Rattle.std.proofs.lemmas.Bool.{cases_lt}
use Rattle.std.proofs.lemmas.Bool.Decides.{nat_tests}
use Rattle.std.proofs.lemmas.List.{length_push, get_or_push, get_or_append_left}
use Rattle.bx_base.proofs.SumLemmas.{sum_below-zero, sum_below-term}
use Rattle.bx_line.specs.declared.incidence.Incidence.{Incidence}
use Rattle.bx_line.specs.declared.incidence.Incidence.TheVariants.{Leaving, Arriving}
use Rattle.bx_line.specs.ByPlace.{row_place, IsFirstRow}
use Rattle.bx_line.specs.Network.{Network}
use Rattle.bx_line.specs.Cliques.{has_row, is_growing, cliques_below}

other_row : (p place : ℕ) → p ≢ place → ◌≡◌ {A = ℕ} (cond (eqb p place) 1 0) 0
other_row p place h = grind (arith, nat_tests)

pub same_row : (p place : ℕ) → p ≡ place → ◌≡◌ {A = ℕ} (cond (eqb p place) 1 0) 1
same_row p place h = grind (arith, nat_tests)

pub some_counted : (n : ℕ) → 1 ≤ n → ltb 0 n ≡ true
some_counted n h = grind (arith, nat_tests)

none_counted : (n : ℕ) → n ≡ 0 → ltb 0 n ≡ false
none_counted n h = grind (arith, nat_tests)

-- the first row of a place says whether there is one
pub has_row-first : (side : Incidence) (line : Network) (place : ℕ) (row : Option ℕ) → IsFirstRow side line.arcs place 0 row → is_some row ≡ has_row side line place
has_row-first side line place None f =
    sym (none_counted _ (sum_below-zero (length line.arcs) (λ k. cond (eqb (row_place side line.arcs k) place) 1 0) (λ k h. other_row (row_place side line.arcs k) place (f.none refl k (omega arith) h))))
has_row-first side line place (Some r) f =
    let t = f.there r refl in
    let term = sum_below-term (length line.arcs) (λ k. cond (eqb (row_place side line.arcs k) place) 1 0) r t.1 in
    let one = same_row (row_place side line.arcs r) place t.2 in
    sym (some_counted _ (omega (arith, term, one)))

-- one place more
pub growing_next : (line : Network) (n : ℕ) → is_growing line (n + 1) ≡ (has_row Leaving line n || (is_growing line n && not (has_row Arriving line n)))
growing_next line n = rw add-one refl

pub below_next : (line : Network) (n : ℕ) → cliques_below line (n + 1) ≡ cliques_below line n + cond (is_growing line n && has_row Arriving line n) 1 0
below_next line n = rw add-one refl

pub at_most_one : (b : Bool) → cond {A = ℕ} b 1 0 ≤ 1
at_most_one true = omega arith
at_most_one false = omega arith

-- the counts of the places below n, how many sets have ended there, and whether one grows
pub record IsSwept (line : Network) (n ended : ℕ) (grows : Bool) (counts : List ℕ) : Type 0 where
  pub size : length counts ≡ n
  pub each : (v : ℕ) → v < n → get_or counts v 0 ≡ cliques_below line (v + 1)
  pub ended_is : ended ≡ cliques_below line n
  pub grows_is : grows ≡ is_growing line n
  pub few : ended ≤ n

-- the step of the sweep
pub swept_more : (line : Network) (n ended after : ℕ) (grows starts ends new : Bool) (counts : List ℕ) → IsSwept line n ended grows counts → starts ≡ has_row Leaving line n → ends ≡ has_row Arriving line n → after ≡ ended + cond (grows && ends) 1 0 → new ≡ (starts || (grows && not ends)) → IsSwept line (n + 1) after new (counts ++ after ∷ [])
swept_more line n ended after grows starts ends new counts before s a t w =
    let below : after ≡ cliques_below line (n + 1) = t ∙ rw (before.ended_is, before.grows_is, a) (sym (below_next line n)) in
    record {
      size = omega (arith, length_push counts after, before.size);
      each = λ v h. elim (cases_lt v n) [
        | inl b ↦ get_or_append_left counts (after ∷ []) 0 v (omega (arith, b, before.size)) ∙ before.each v b
        | inr b ↦ (let e : n ≡ v = omega arith in get_or_push counts after 0 v (before.size ∙ e) ∙ (below ∙ ap (λ (m : ℕ). cliques_below line (m + 1)) e))
      ];
      ended_is = below;
      grows_is = w ∙ rw (before.grows_is, s, a) (sym (growing_next line n));
      few = omega (arith, t, at_most_one (grows && ends), before.few);
    }
