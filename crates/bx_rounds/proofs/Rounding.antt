-- Rounds over all steps. What the lengths have above the bound that potentials give falls with each change. Once no step shortens
-- anything the lengths fit, so no walk is shorter.
use Rattle.std.proofs.Common.{◌≡◌, ℕ, zero, suc, ◌+◌, ◌-◌, ◌<◌, ◌≤◌, List, [], ◌∷◌, ℤ, pos, nat_abs, ◌+ℤ◌, ◌-ℤ◌, ◌≤ℤ◌, ap, arith, inl, inr}
use Rattle.std.specs.Prelude.{◌<ℤ◌}
use Rattle.std.specs.List.{Contains}
use Rattle.std.proofs.lemmas.Int.{ints}
use Rattle.std.proofs.lemmas.Bool.{cases_lt, cases_eq}
use Rattle.std.proofs.lemmas.List.{get_or_past}
use Rattle.bx_base.specs.Sums.{sum_below}
use Rattle.bx_base.proofs.SumLemmas.{sum_below-le}
use Rattle.bx_line.specs.Network.{Network, IsNetwork, places_of}
use Rattle.bx_line.specs.Flows.{Flow}
use Rattle.bx_dist.specs.declared.part.Part.{Part}
use Rattle.bx_dist.specs.declared.step.Step.{Step}
use Rattle.bx_dist.specs.Residual.{IsOpen, Fits, ArePotentials, AreSmall, height_at, step_to}
use Rattle.bx_dist.specs.Walks.{IsWalk, walk_length, AreLeast, AreDistances, lengths_of}
use Rattle.bx_dist.specs.Search.{ShortensNothing, Shortens, AreMedium}
use Rattle.bx_dist.specs.Tight.{AreSteps}
use Rattle.bx_dist.proofs.After.{first_distance, step_within, tight_from_least, AllTight}
use Rattle.bx_dist.proofs.Bounds.{AreBounds, bounds_after, new_at, other_at, above, open_is_step}
use Rattle.bx_dist.proofs.Small.{least_that_fit, small_distances}
use Rattle.bx_rounds.specs.Rounds.{AreOpenSteps, IsTightWalk, Reaches, IsFoundWalk}

-- how far the lengths are together above what the potentials show that no walk can go below
abbrev pub excess_at : List ℤ → List ℤ → ℕ → ℕ
excess_at heights lengths v = nat_abs (height_at lengths v -ℤ (height_at heights v -ℤ height_at heights 0))

abbrev pub excess : Network → List ℤ → List ℤ → ℕ
excess line heights lengths = sum_below (places_of line) (λ v. excess_at heights lengths v)

sum_below-less : (n : ℕ) (f g : ℕ → ℕ) (k : ℕ) → ((i : ℕ) → i < n → f i ≤ g i) → k < n → f k + 1 ≤ g k → sum_below n f + 1 ≤ sum_below n g
sum_below-less zero f g k h b l = absurd (omega arith)
sum_below-less (suc n) f g k h b l =
    elim (cases_lt k n) [
      | inl a ↦ omega (arith, sum_below-less n f g k (λ i c. h i (omega arith)) a l, h n (omega arith))
      | inr a ↦ (let e : k ≡ n = omega arith in let here = rw e at l in omega (arith, sum_below-le n f g (λ i c. h i (omega arith)), here))
    ]

module _ (part : Part) (line : Network) (flow : Flow) where
  pub medium : IsNetwork line → (lengths : List ℤ) → AreBounds part line flow lengths → (heights : List ℤ) → ArePotentials line flow heights → AreSmall heights → AreMedium lengths
  medium network lengths bounds heights potentials small v =
      elim (cases_lt v (places_of line)) [
        | inl h ↦ omega (arith, ints, above part line flow network lengths bounds heights potentials v h, bounds.low v, small v, small 0)
        | inr h ↦ (let past = get_or_past lengths v (pos 0) (omega (arith, bounds.one_each)) in omega (arith, ints, past))
      ]

  one_less : (old new bound : ℤ) → bound ≤ℤ new → new <ℤ old → nat_abs (new -ℤ bound) + 1 ≤ nat_abs (old -ℤ bound)
  one_less old new bound h l = omega (arith, ints)

  pub excess_falls : IsNetwork line → (heights lengths new : List ℤ) → ArePotentials line flow heights → AreBounds part line flow lengths → (step : Step) → IsOpen part line flow step → Shortens line step lengths new → excess line heights new + 1 ≤ excess line heights lengths
  excess_falls network heights lengths new potentials bounds step o s =
      let to = step_to line step in
      let inside = step_within part line flow network step o in
      let after = bounds_after part line flow network lengths bounds step o new s in
      let at = new_at part line flow network lengths bounds step o new s in
      let base = height_at heights to -ℤ height_at heights 0 in
      let floor = above part line flow network new after heights potentials to inside.1 in
      let lower : height_at new to <ℤ height_at lengths to = omega (arith, ints, at, s.lower) in
      let here = one_less (height_at lengths to) (height_at new to) base floor lower in
      sum_below-less (places_of line) (excess_at heights new) (excess_at heights lengths) to (λ v h. elim (cases_eq v to) [
        | inl e ↦ (let n = ap (excess_at heights new) e in let l = ap (excess_at heights lengths) e in omega (arith, n, l, here))
        | inr d ↦ (let same = ap (λ (z : ℤ). nat_abs (z -ℤ (height_at heights v -ℤ height_at heights 0))) (other_at part line flow network lengths bounds step o new s v d) in omega (arith, same))
      ]) inside.1 here

  module _ (network : IsNetwork line) (steps : List Step) (are_open : AreOpenSteps part line flow steps) where
    pub are_steps : AreSteps line steps
    are_steps step c = open_is_step part line flow step (are_open.open_alone step c)

    -- tight steps from the list make a walk, as long as the lengths differ
    tight_is_walk : (lengths : List ℤ) (from to : ℕ) (walk : List Step) → IsTightWalk line steps lengths from to walk → IsWalk part line flow from to walk
    tight_is_walk lengths from to [] w = w
    tight_is_walk lengths from to (step ∷ walk) w = (are_open.open_alone step w.0, w.2, tight_is_walk lengths (step_to line step) to walk w.3)

    tight_length : (lengths : List ℤ) (from to : ℕ) (walk : List Step) → IsTightWalk line steps lengths from to walk → height_at lengths to ≡ (height_at lengths from +ℤ walk_length line walk)
    tight_length lengths from to [] w = omega (arith, ints, ap (height_at lengths) w)
    tight_length lengths from to (step ∷ walk) w =
        omega (arith, ints, tight_length lengths (step_to line step) to walk w.3, w.1, ap (height_at lengths) w.2)

    walk_is_tight : (lengths : List ℤ) (from to : ℕ) (walk : List Step) → IsWalk part line flow from to walk → AllTight line lengths walk → IsTightWalk line steps lengths from to walk
    walk_is_tight lengths from to [] w t = w
    walk_is_tight lengths from to (step ∷ walk) w t = (are_open.all step w.0, t.0, w.1, walk_is_tight lengths (step_to line step) to walk w.2 t.1)

    module _ (some : 0 < places_of line) (lengths : List ℤ) (bounds : AreBounds part line flow lengths) (settled : (step : Step) → Contains steps step → ShortensNothing line lengths step) where
      settled_fits : Fits part line flow lengths
      settled_fits step o = settled step (are_open.all step o)

      pub settled_least : AreLeast part line flow lengths
      settled_least = least_that_fit part line flow lengths settled_fits bounds.one_each bounds.reached (bounds.low 0)

      last_within : places_of line - 1 < places_of line
      last_within = omega arith

      pub settled_reaches : Reaches line steps lengths (places_of line - 1)
      settled_reaches =
          let r = bounds.reached (places_of line - 1) last_within in
          (r.0, walk_is_tight lengths 0 (places_of line - 1) r.0 r.1 (tight_from_least part line flow lengths settled_fits 0 (places_of line - 1) r.0 r.1 (omega (arith, ints, r.2, bounds.low 0))))

      module _ (walk : List Step) (found : IsFoundWalk line steps lengths walk) where
        is_walk : IsWalk part line flow 0 (places_of line - 1) walk
        is_walk = tight_is_walk lengths 0 (places_of line - 1) walk found.leads

        as_long : walk_length line walk ≡ height_at lengths (places_of line - 1)
        as_long = omega (arith, ints, tight_length lengths 0 (places_of line - 1) walk found.leads, first_distance part line flow lengths network some settled_least)

        pub found_distances : AreDistances part line flow (lengths_of lengths walk)
        found_distances =
            record { lengths = settled_least; path = record { some_place = some; leads = is_walk; once = found.once }; shortest = as_long }

        pub found_small : AreSmall lengths
        found_small = small_distances part line flow network lengths walk found_distances found.few
