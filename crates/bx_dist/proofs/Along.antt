-- One pass along the line on which nothing is carried: each step leads to a later place, so what was passed stays settled.
use Rattle.std.proofs.Common.{◌≡◌, ◌≢◌, ℕ, zero, suc, ◌+◌, ◌-◌, ◌*◌, ◌<◌, ◌≤◌, Bool, true, false, List, [], ◌∷◌, ◌++◌, length, replicate, ℤ, pos, neg_ℤ, refl, sym, ◌∙◌, ap, subst, arith, ◌⊎◌, inl, inr, Option, Some, None}
use Rattle.std.proofs.lemmas.Int.{ints}
use Rattle.std.proofs.lemmas.Bool.{cases_lt, cases_eq}
use Rattle.std.proofs.lemmas.List.{get_or_past}
use Rattle.bx_line.specs.Network.{Network, IsNetwork, places_of, gaps_of}
use Rattle.bx_line.specs.ByPlace.{IsFirstRow, row_place}
use Rattle.bx_line.specs.declared.incidence.Incidence.TheVariants.{Leaving}
use Rattle.bx_dist.specs.declared.part.Part.TheVariants.{Whole}
use Rattle.bx_dist.specs.declared.step.Step.{Step}
use Rattle.bx_dist.specs.declared.step.Step.TheVariants.{Idle, Back, Take, Give}
use Rattle.bx_dist.specs.Passing.{IsPassed}
use Rattle.bx_dist.specs.Residual.{IsOpen, AreSmall, height_at, row_arc, step_from, step_to}
use Rattle.bx_dist.specs.Search.{ShortensNothing, Shortens}
use Rattle.bx_dist.specs.Sending.{empty_flow}
use Rattle.bx_dist.specs.Walks.{AreLeast}
use Rattle.bx_dist.proofs.After.{row_within}
use Rattle.bx_dist.proofs.Bounds.{AreBounds, bounds_after, new_at, other_at, zeros_are_bounds, above}
use Rattle.bx_dist.proofs.Fitting.{walk_long}
use Rattle.bx_dist.proofs.Rows.{IsFrom, from_next}
use Rattle.bx_dist.proofs.Sending.{nothing_idle, nothing_carried}
use Rattle.bx_dist.proofs.Steep.{AreSteep, steep_none, steep_more, steep_potentials}

-- lengths of walks, and the steps from the first places up to one that may shorten them yet
pub record IsPassing (line : Network) (place : ℕ) (Left : Step → Type 0) (lengths : List ℤ) : Type 0 where
  pub bounds : AreBounds Whole line (empty_flow line) lengths
  pub settled : (step : Step) → IsOpen Whole line (empty_flow line) step → step_from line step ≤ place → Left step ⊎ ShortensNothing line lengths step

-- the steps from the place that are left: along rows from this one on
abbrev pub IsRowLeft : Network → ℕ → Option ℕ → Step → Type 0
IsRowLeft line place next (Take row) = ((row_arc line row).from ≡ place) × IsFrom next row
IsRowLeft line place next (Idle v) = ⊥
IsRowLeft line place next (Back v) = ⊥
IsRowLeft line place next (Give row) = ⊥

pub passed_none : (line : Network) → IsPassed line 0 (replicate (places_of line) (pos 0))
passed_none line =
    let zeros = zeros_are_bounds Whole line (empty_flow line) in
    record { one_each = zeros.one_each; reached = zeros.reached; low = zeros.low; settled = λ t o h. absurd (omega (arith, h)) }

module _ (line : Network) (network : IsNetwork line) where
  -- each step leads to a later place
  onward : (step : Step) → IsOpen Whole line (empty_flow line) step → step_from line step < step_to line step
  onward (Idle v) o = omega arith
  onward (Back v) o = absurd (omega (arith, o.1, nothing_idle (gaps_of line) v))
  onward (Take row) o = (row_within Whole line network row o.there).rising
  onward (Give row) o = (let none = nothing_carried (length line.arcs) (row - 1) in cc (o.state))

  to_within : (step : Step) → IsOpen Whole line (empty_flow line) step → step_to line step < places_of line
  to_within (Idle v) o = o
  to_within (Back v) o = absurd (omega (arith, o.1, nothing_idle (gaps_of line) v))
  to_within (Take row) o = (row_within Whole line network row o.there).within
  to_within (Give row) o = (let none = nothing_carried (length line.arcs) (row - 1) in cc (o.state))

  -- a steep line, as a floor below all lengths
  steep_line : ℕ → List ℤ
  steep_line zero = []
  steep_line (suc n) = steep_line n ++ neg_ℤ (pos (17001000000000 * n)) ∷ []

  is_steep : (n : ℕ) → AreSteep n (steep_line n)
  unfolding steep_line
  is_steep zero = steep_none
  is_steep (suc n) = subst (λ (m : ℕ). AreSteep m (steep_line n ++ neg_ℤ (pos (17001000000000 * n)) ∷ [])) (omega arith) (steep_more n (steep_line n) (neg_ℤ (pos (17001000000000 * n))) refl (is_steep n))

  pub bounds_small : (lengths : List ℤ) → AreBounds Whole line (empty_flow line) lengths → AreSmall lengths
  bounds_small lengths bounds v =
      elim (cases_lt v (places_of line)) [
        | inl h ↦ (
            let heights = steep_line (places_of line) in
            let steep = is_steep (places_of line) in
            let floor = above Whole line (empty_flow line) network lengths bounds heights (steep_potentials line network heights steep) v h in
            omega (arith, ints, floor, steep.each v h, steep.each 0 (omega (arith, h)), bounds.low v, network.few_places))
        | inr h ↦ (let past = get_or_past lengths v (pos 0) (omega (arith, bounds.one_each)) in omega (arith, ints, past))
      ]

  pub passed_bounds : (place : ℕ) (lengths : List ℤ) → IsPassed line place lengths → AreBounds Whole line (empty_flow line) lengths
  passed_bounds place lengths p = record { one_each = p.one_each; reached = p.reached; low = p.low }

  pub passing_fewer : (place : ℕ) (Left Fewer : Step → Type 0) (lengths : List ℤ) → IsPassing line place Left lengths → ((t : Step) → IsOpen Whole line (empty_flow line) t → Left t → Fewer t ⊎ ShortensNothing line lengths t) → IsPassing line place Fewer lengths
  passing_fewer place Left Fewer lengths p fewer =
      record { bounds = p.bounds; settled = λ t o h. elim (p.settled t o h) [ inl l ↦ fewer t o l | inr q ↦ inr q ] }

  module _ (place : ℕ) (Left : Step → Type 0) (old : List ℤ) (passing : IsPassing line place Left old) (step : Step) (o : IsOpen Whole line (empty_flow line) step) (from : step_from line step ≡ place) where
    shortened : (new : List ℤ) → Shortens line step old new → IsPassing line place Left new × ShortensNothing line new step
    shortened new s =
        let later = onward step o in
        let end = new_at Whole line (empty_flow line) network old passing.bounds step o new s in
        let other : (v : ℕ) → v ≢ step_to line step → height_at new v ≡ height_at old v = λ v d. other_at Whole line (empty_flow line) network old passing.bounds step o new s v d in
        let begin = other (step_from line step) (λ e. omega (arith, e, later)) in
        let still : (t : Step) → step_from line t ≤ place → ShortensNothing line old t → ShortensNothing line new t = λ t h q.
        (let same = other (step_from line t) (λ e. omega (arith, e, h, from, later)) in
        elim (cases_eq (step_to line t) (step_to line step)) [
          | inl e ↦ (let at = ap (height_at new) e in let was = ap (height_at old) e in omega (arith, ints, same, at, was, end, s.lower, q))
          | inr d ↦ omega (arith, ints, same, other (step_to line t) d, q)
        ]) in (
          record {
            bounds = bounds_after Whole line (empty_flow line) network old passing.bounds step o new s;
            settled = λ t p h. elim (passing.settled t p h) [ inl l ↦ inl l | inr q ↦ inr (still t h q) ];
          },
          omega (arith, ints, end, begin),
        )

    pub passing_taken : (new : List ℤ) (b : Bool) → (b ≡ true → Shortens line step old new) → (b ≡ false → ShortensNothing line old step) → (b ≡ false → new ≡ old) → IsPassing line place Left new × ShortensNothing line new step
    passing_taken new true shorter settled same = shortened new (shorter refl)
    passing_taken new false shorter settled same = subst (λ (l : List ℤ). IsPassing line place Left l × ShortensNothing line l step) (sym (same refl)) (passing, settled refl)

  pub idle_passed : (place : ℕ) (old new : List ℤ) (b : Bool) → place + 1 < places_of line → IsPassed line place old → (b ≡ true → Shortens line (Idle place) old new) → (b ≡ false → ShortensNothing line old (Idle place)) → (b ≡ false → new ≡ old) → IsPassing line place (IsRowLeft line place (Some 0)) new
  idle_passed place old new b within passed shorter settled same =
      let begin : IsPassing line place (λ t. step_from line t ≡ place) old = record {
        bounds = passed_bounds place old passed;
        settled = λ t o h. elim (cases_lt (step_from line t) place) [ inl a ↦ inr (passed.settled t o a) | inr a ↦ inl (omega arith) ];
      } in
      let after = passing_taken place (λ t. step_from line t ≡ place) old begin (Idle place) within refl new b shorter settled same in
      passing_fewer place (λ t. step_from line t ≡ place) (IsRowLeft line place (Some 0)) new after.0 (fewer after.1)
    where
      fewer : ShortensNothing line new (Idle place) → (t : Step) → IsOpen Whole line (empty_flow line) t → step_from line t ≡ place → IsRowLeft line place (Some 0) t ⊎ ShortensNothing line new t
      fewer done (Idle v) o e = inr (subst (λ (u : ℕ). ShortensNothing line new (Idle u)) (sym e) done)
      fewer done (Take row) o e = inl (e, omega (arith, o.there.named))
      fewer done (Back v) o e = absurd (omega (arith, o.1, nothing_idle (gaps_of line) v))
      fewer done (Give row) o e = (let none = nothing_carried (length line.arcs) (row - 1) in cc (o.state))

  pub row_passed : (place row : ℕ) (old new : List ℤ) (b : Bool) → row < length line.arcs → row_place Leaving line.arcs row ≡ place → IsPassing line place (IsRowLeft line place (Some row)) old → (b ≡ true → Shortens line (Take (row + 1)) old new) → (b ≡ false → ShortensNothing line old (Take (row + 1))) → (b ≡ false → new ≡ old) → IsPassing line place (IsRowLeft line place (Some (row + 1))) new
  row_passed place row old new b within at passing shorter settled same =
      let e : row + 1 - 1 ≡ row = omega arith in
      let from : (row_arc line (row + 1)).from ≡ place = ap (row_place Leaving line.arcs) e ∙ at in
      let open_step : IsOpen Whole line (empty_flow line) (Take (row + 1)) = record { there = record { named = omega arith; within = omega (arith, within); in_part = tt }; state = nothing_carried (length line.arcs) (row + 1 - 1) } in
      let after = passing_taken place (IsRowLeft line place (Some row)) old passing (Take (row + 1)) open_step from new b shorter settled same in
      passing_fewer place (IsRowLeft line place (Some row)) (IsRowLeft line place (Some (row + 1))) new after.0 (fewer after.1)
    where
      fewer : ShortensNothing line new (Take (row + 1)) → (t : Step) → IsOpen Whole line (empty_flow line) t → IsRowLeft line place (Some row) t → IsRowLeft line place (Some (row + 1)) t ⊎ ShortensNothing line new t
      fewer done (Idle v) o l = absurd l
      fewer done (Back v) o l = absurd l
      fewer done (Give r) o l = absurd l
      fewer done (Take r) o l = elim (cases_lt (row + 1) r) [ inl a ↦ inl (l.0, a) | inr a ↦ (let e : row + 1 ≡ r = omega (arith, a, l.1) in inr (subst (λ (q : ℕ). ShortensNothing line new (Take q)) e done)) ]

  pub next_passed : (place least : ℕ) (next : Option ℕ) (lengths : List ℤ) → IsFirstRow Leaving line.arcs place least next → IsPassing line place (IsRowLeft line place (Some least)) lengths → IsPassing line place (IsRowLeft line place next) lengths
  next_passed place least next lengths first passing = passing_fewer place (IsRowLeft line place (Some least)) (IsRowLeft line place next) lengths passing fewer
    where
      fewer : (t : Step) → IsOpen Whole line (empty_flow line) t → IsRowLeft line place (Some least) t → IsRowLeft line place next t ⊎ ShortensNothing line lengths t
      fewer (Idle v) o l = absurd l
      fewer (Back v) o l = absurd l
      fewer (Give r) o l = absurd l
      fewer (Take r) o l = inl (l.0, from_next Leaving line place least r next first o.there.named o.there.within l.0 l.1)

  pub rows_passed : (place : ℕ) (lengths : List ℤ) → IsPassing line place (IsRowLeft line place None) lengths → IsPassed line (place + 1) lengths
  rows_passed place lengths p =
      record {
        one_each = p.bounds.one_each;
        reached = p.bounds.reached;
        low = p.bounds.low;
        settled = λ t o h. elim (p.settled t o (omega (arith, h))) [ inl l ↦ absurd (none t l) | inr q ↦ q ];
      }
    where
      none : (t : Step) → IsRowLeft line place None t → ⊥
      none (Idle v) l = l
      none (Back v) l = l
      none (Give r) l = l
      none (Take r) l = l.1

  -- all are passed before the last place
  pub all_passed : (place : ℕ) (lengths : List ℤ) → places_of line ≤ place + 1 → IsPassed line place lengths → AreLeast Whole line (empty_flow line) lengths
  all_passed place lengths end p =
      record {
        one_each = p.one_each;
        reached = p.reached;
        least = λ v walk h w. omega (arith, ints, walk_long Whole line (empty_flow line) lengths (λ t o. p.settled t o (omega (arith, onward t o, to_within t o, end))) 0 v walk w, p.low 0);
      }
