-- Lengths of walks, none above 0, before and after a step shortened one: potentials that fit bound them from below.
use Rattle.std.proofs.Common.{◌≡◌, ◌≢◌, ℕ, zero, suc, ◌<◌, List, [], ◌∷◌, ◌++◌, length, replicate, ℤ, pos, ◌+ℤ◌, ◌-ℤ◌, ◌≤ℤ◌, refl, sym, ◌∙◌, ap, subst, arith, inl, inr, get_or-set_same, get_or-set_other, length-set}
use Rattle.std.proofs.lemmas.Int.{ints}
use Rattle.std.proofs.lemmas.Bool.{cases_lt, cases_eq}
use Rattle.std.proofs.lemmas.List.{get_or_past, get_or-replicate, length-replicate}
use Rattle.bx_line.specs.Network.{Network, IsNetwork, places_of}
use Rattle.bx_line.specs.Flows.{Flow}
use Rattle.bx_dist.specs.declared.part.Part.{Part}
use Rattle.bx_dist.specs.declared.step.Step.{Step}
use Rattle.bx_dist.specs.declared.step.Step.TheVariants.{Idle, Back, Take, Give}
use Rattle.bx_dist.specs.Residual.{IsOpen, Fits, ArePotentials, height_at, step_from, step_to, step_cost}
use Rattle.bx_dist.specs.Walks.{IsWalk, walk_length, AreReached}
use Rattle.bx_dist.specs.Search.{Shortens, IsStep}
use Rattle.bx_dist.proofs.Fitting.{walk_long, open_in_whole}
use Rattle.bx_dist.proofs.After.{walk_and_step, length_and_step, step_within}

-- lengths of walks, none above 0
pub record AreBounds (part : Part) (line : Network) (flow : Flow) (lengths : List ℤ) : Type 0 where
  pub one_each : length lengths ≡ places_of line
  pub reached : AreReached part line flow lengths
  pub low : (v : ℕ) → height_at lengths v ≤ℤ pos 0

-- the way over idle arcs alone
abbrev idle_to : ℕ → List Step
idle_to zero = []
idle_to (suc v) = idle_to v ++ Idle v ∷ []

zeros_at : (n v : ℕ) → height_at (replicate n (pos 0)) v ≡ pos 0
zeros_at n v = elim (cases_lt v n) [ inl h ↦ get_or-replicate n v (pos 0) (pos 0) h | inr h ↦ get_or_past (replicate n (pos 0)) v (pos 0) (omega (arith, length-replicate {A = ℤ} n (pos 0))) ]

module _ (part : Part) (line : Network) (flow : Flow) where
  idle_walk : (v : ℕ) → v < places_of line → IsWalk part line flow 0 v (idle_to v)
  idle_walk zero h = refl
  idle_walk (suc v) h = subst (λ (u : ℕ). IsWalk part line flow 0 u (idle_to (suc v))) (omega arith) (walk_and_step part line flow 0 v (idle_to v) (Idle v) (idle_walk v (omega arith)) (omega arith) refl)

  idle_length : (v : ℕ) → walk_length line (idle_to v) ≡ pos 0
  idle_length zero = refl
  idle_length (suc v) = omega (arith, ints, length_and_step line (idle_to v) (Idle v), idle_length v)

  pub zeros_are_bounds : AreBounds part line flow (replicate (places_of line) (pos 0))
  zeros_are_bounds =
      record {
        one_each = length-replicate {A = ℤ} (places_of line) (pos 0);
        reached = λ v h. (idle_to v, idle_walk v h, idle_length v ∙ sym (zeros_at (places_of line) v));
        low = λ v. omega (arith, ints, zeros_at (places_of line) v);
      }

  module _ (network : IsNetwork line) (lengths : List ℤ) (bounds : AreBounds part line flow lengths) where
    module _ (step : Step) (open_step : IsOpen part line flow step) (new : List ℤ) (shorter : Shortens line step lengths new) where
      within : (step_from line step < places_of line) × (step_to line step < places_of line)
      within = step_within part line flow network step open_step

      pub new_at : height_at new (step_to line step) ≡ (height_at lengths (step_from line step) +ℤ step_cost line step)
      new_at = ap (λ (l : List ℤ). height_at l (step_to line step)) shorter.now ∙ get_or-set_same lengths (step_to line step) (height_at lengths (step_from line step) +ℤ step_cost line step) (pos 0) (omega (arith, bounds.one_each, within.1))

      pub other_at : (v : ℕ) → v ≢ step_to line step → height_at new v ≡ height_at lengths v
      other_at v d = ap (λ (l : List ℤ). height_at l v) shorter.now ∙ get_or-set_other lengths (step_to line step) v (height_at lengths (step_from line step) +ℤ step_cost line step) (pos 0) d

      reached_after : AreReached part line flow new
      reached_after v h =
          elim (cases_eq v (step_to line step)) [
            | inl e ↦ (
                let r = bounds.reached (step_from line step) within.0 in
                let w = walk_and_step part line flow 0 (step_from line step) r.0 step r.1 open_step refl in
                rw e (r.0 ++ step ∷ [], w, omega (arith, ints, length_and_step line r.0 step, r.2, new_at)))
            | inr d ↦ (let r = bounds.reached v h in (r.0, r.1, r.2 ∙ sym (other_at v d)))
          ]

      pub bounds_after : AreBounds part line flow new
      bounds_after =
          record {
            one_each = ap (length {A = ℤ}) shorter.now ∙ (length-set lengths (step_to line step) (height_at lengths (step_from line step) +ℤ step_cost line step) ∙ bounds.one_each);
            reached = reached_after;
            low = λ v. elim (cases_eq v (step_to line step)) [
              | inl e ↦ (let at = ap (height_at new) e in omega (arith, ints, at, new_at, shorter.lower, bounds.low (step_to line step)))
              | inr d ↦ omega (arith, ints, other_at v d, bounds.low v)
            ];
          }

    module _ (heights : List ℤ) (potentials : ArePotentials line flow heights) where
      fits_part : Fits part line flow heights
      fits_part step o = potentials.fits step (open_in_whole part line flow step o)

      -- no length is below what the potentials allow
      pub above : (v : ℕ) → v < places_of line → (height_at heights v -ℤ height_at heights 0) ≤ℤ height_at lengths v
      above v h =
          let r = bounds.reached v h in
          let long = walk_long part line flow heights fits_part 0 v r.0 r.1 in
          omega (arith, ints, long, r.2)

  pub open_is_step : (step : Step) → IsOpen part line flow step → IsStep line step
  open_is_step (Idle v) o = o
  open_is_step (Back v) o = o.0
  open_is_step (Take r) o = (o.there.named, o.there.within)
  open_is_step (Give r) o = (o.there.named, o.there.within)
