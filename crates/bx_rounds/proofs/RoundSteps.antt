-- One step of the rounds.
use Rattle.std.proofs.Common.{ℕ, ◌+◌, ◌<◌, ◌≤◌, List, length, get_or, ℤ, sym, ◌∙◌, subst, arith, inl, inr}
use Rattle.std.specs.List.{Contains}
use Rattle.std.proofs.lemmas.List.{get_or_default}
use Rattle.std.proofs.lemmas.List.Elements.{Contains-get_or}
use Rattle.bx_line.specs.Network.{Network, IsNetwork}
use Rattle.bx_line.specs.Flows.{Flow}
use Rattle.bx_dist.specs.declared.part.Part.{Part}
use Rattle.bx_dist.specs.declared.step.Step.{Step}
use Rattle.bx_dist.specs.declared.step.Step.TheVariants.{Idle}
use Rattle.bx_dist.specs.Residual.{IsOpen, ArePotentials}
use Rattle.bx_dist.specs.Search.{ShortensNothing, Shortens}
use Rattle.bx_dist.proofs.Bounds.{AreBounds, bounds_after}
use Rattle.bx_rounds.specs.Rounds.{AreOpenSteps, IsNextOnCircle}
use Rattle.bx_rounds.proofs.Passes.{IsPassed, passed_none, passed_all, passed_before, next_within, less_after_change, work_left}
use Rattle.bx_rounds.proofs.Rounding.{excess, excess_falls}

-- the step at a place of the list
abbrev pub step_at : List Step → ℕ → Step
step_at steps j = get_or steps j (Idle 0)

-- lengths of walks, and so many steps before the next one that shorten nothing
pub record IsRound (part : Part) (line : Network) (flow : Flow) (steps : List Step) (lengths : List ℤ) (at settled : ℕ) : Type 0 where
  pub bounds : AreBounds part line flow lengths
  pub within : 0 < length steps → at < length steps
  pub few : settled ≤ length steps
  pub passed : (j : ℕ) → j < length steps → IsPassed at settled (length steps) j → ShortensNothing line lengths (step_at steps j)

module _ (part : Part) (line : Network) (flow : Flow) (network : IsNetwork line) (steps : List Step) (are_open : AreOpenSteps part line flow steps) where
  pub round_first : (lengths : List ℤ) → AreBounds part line flow lengths → IsRound part line flow steps lengths 0 0
  round_first lengths b =
      record { bounds = b; within = λ h. h; few = omega arith; passed = λ j h p. absurd (passed_none 0 (length steps) j h p) }

  pub at_open : (at : ℕ) → at < length steps → IsOpen part line flow (step_at steps at)
  at_open at h = are_open.open_alone (step_at steps at) (Contains-get_or steps at (Idle 0) h)

  module _ (lengths : List ℤ) (at settled next : ℕ) (round : IsRound part line flow steps lengths at settled) (more : settled < length steps) (is_next : IsNextOnCircle at (length steps) next) where
    at_within : at < length steps
    at_within = round.within (omega arith)

    pub round_changed : (new : List ℤ) → Shortens line (step_at steps at) lengths new → IsRound part line flow steps new next 0
    round_changed new s =
        record {
          bounds = bounds_after part line flow network lengths round.bounds (step_at steps at) (at_open at at_within) new s;
          within = λ _. next_within at (length steps) next at_within is_next;
          few = omega arith;
          passed = λ j h p. absurd (passed_none next (length steps) j h p);
        }

    pub less_changed : (heights new : List ℤ) → ArePotentials line flow heights → Shortens line (step_at steps at) lengths new → work_left (excess line heights new) (length steps) 0 < work_left (excess line heights lengths) (length steps) settled
    less_changed heights new potentials s =
        less_after_change (excess line heights lengths) (excess line heights new) (length steps) settled (excess_falls part line flow network heights lengths new potentials round.bounds (step_at steps at) (at_open at at_within) s)

    pub round_same : ShortensNothing line lengths (step_at steps at) → IsRound part line flow steps lengths next (settled + 1)
    round_same s =
        record {
          bounds = round.bounds;
          within = λ _. next_within at (length steps) next at_within is_next;
          few = omega arith;
          passed = λ j h p. elim (passed_before at settled (length steps) next j at_within h is_next p) [
            | inl e ↦ subst (λ (i : ℕ). ShortensNothing line lengths (step_at steps i)) (sym e) s
            | inr q ↦ round.passed j h q
          ];
        }

  -- at the end nothing is shortened by any step
  pub all_settled : (lengths : List ℤ) (at settled : ℕ) → IsRound part line flow steps lengths at settled → length steps ≤ settled → (step : Step) → Contains steps step → ShortensNothing line lengths step
  all_settled lengths at settled round end step c =
      let within = round.within (omega (arith, c.1)) in
      let here = round.passed c.0 c.1 (passed_all at settled (length steps) c.0 within end) in
      subst (ShortensNothing line lengths) (get_or_default steps c.0 (Idle 0) step c.1 ∙ c.2) here
