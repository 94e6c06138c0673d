-- Lengths that fit are least; and distances are small, where the walk to the last place has no more steps than there are places.
use Rattle.std.proofs.Common.{◌≡◌, ℕ, zero, suc, ◌+◌, ◌-◌, ◌*◌, ◌<◌, ◌≤◌, List, [], ◌∷◌, length, ℤ, pos, ◌+ℤ◌, ◌≤ℤ◌, ap, arith, inl, inr}
use Rattle.std.proofs.lemmas.Int.{ints}
use Rattle.std.proofs.lemmas.Bool.{cases_lt}
use Rattle.std.proofs.lemmas.List.{get_or_past}
use Rattle.bx_line.specs.Network.{Network, IsNetwork, places_of}
use Rattle.bx_line.specs.Flows.{Flow}
use Rattle.bx_dist.specs.declared.part.Part.{Part}
use Rattle.bx_dist.specs.declared.step.Step.{Step}
use Rattle.bx_dist.specs.declared.step.Step.TheVariants.{Idle, Back, Take, Give}
use Rattle.bx_dist.specs.Residual.{IsOpen, Fits, AreSmall, height_at, step_to, step_cost}
use Rattle.bx_dist.specs.Walks.{IsWalk, walk_length, AreReached, AreLeast, AreDistances, lengths_of}
use Rattle.bx_dist.proofs.Fitting.{walk_long}
use Rattle.bx_dist.proofs.After.{distances_fit, first_distance, row_within}

module _ (part : Part) (line : Network) (flow : Flow) (lengths : List ℤ) (fits : Fits part line flow lengths) where
  pub least_that_fit : length lengths ≡ places_of line → AreReached part line flow lengths → height_at lengths 0 ≤ℤ pos 0 → AreLeast part line flow lengths
  least_that_fit one_each reached first = record { one_each = one_each; reached = reached; least = λ v walk h w. omega (arith, ints, walk_long part line flow lengths fits 0 v walk w, first) }

  falls_on : (n v : ℕ) → v + n < places_of line → height_at lengths (v + n) ≤ℤ height_at lengths v
  falls_on zero v h = omega (arith, ints, ap (height_at lengths) (add_zero v))
    where
      add_zero : (u : ℕ) → u + zero ≡ u
      add_zero u = omega arith
  falls_on (suc n) v h =
      let before = falls_on n v (omega arith) in
      let step = fits (Idle (v + n)) (omega arith) in
      let same : v + suc n ≡ v + n + 1 = omega arith in
      omega (arith, ints, before, step, ap (height_at lengths) same)

module _ (part : Part) (line : Network) (flow : Flow) (network : IsNetwork line) where
  low_step : (step : Step) → IsOpen part line flow step → pos 0 ≤ℤ (step_cost line step +ℤ pos 17001000000000)
  low_step (Idle v) o = omega (arith, ints)
  low_step (Back v) o = omega (arith, ints)
  low_step (Take r) o = let a = row_within part line network r o.there in omega (arith, ints, a.pay_limit)
  low_step (Give r) o = omega (arith, ints)

  low_walk : (from to : ℕ) (walk : List Step) → IsWalk part line flow from to walk → pos 0 ≤ℤ (walk_length line walk +ℤ pos (17001000000000 * length walk))
  low_walk from to [] w = omega (arith, ints)
  low_walk from to (step ∷ walk) w = omega (arith, ints, low_step step w.0, low_walk (step_to line step) to walk w.2)

  pub small_distances : (lengths : List ℤ) (walk : List Step) → AreDistances part line flow (lengths_of lengths walk) → length walk ≤ places_of line → AreSmall lengths
  small_distances lengths walk d few v =
      elim (cases_lt v (places_of line)) [
        | inl h ↦ (
            let n = places_of line - 1 - v in
            let here : 0 + v ≡ v = omega arith in
            let last : v + n ≡ places_of line - 1 = omega arith in
            let fall = falls_on part line flow lengths (distances_fit part line flow lengths network d.lengths) in
            let start = first_distance part line flow lengths network d.path.some_place d.lengths in
            omega (arith, ints, fall v 0 (omega arith), ap (height_at lengths) here, fall n v (omega arith), ap (height_at lengths) last, start, d.shortest, low_walk 0 (places_of line - 1) walk d.path.leads, few, network.few_places))
        | inr h ↦ (let past = get_or_past lengths v (pos 0) (omega (arith, d.lengths.one_each)) in omega (arith, ints, past))
      ]
