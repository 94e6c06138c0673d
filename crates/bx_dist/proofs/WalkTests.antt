-- What is left of a walk while it is tested.
use Rattle.std.proofs.Common.{◌≡◌, ◌≢◌, ℕ, zero, suc, ◌+◌, ◌<◌, ◌↔◌, List, [], ◌∷◌, length, get_or, drop, sym, subst, arith}
use Rattle.bx_line.specs.Network.{Network}
use Rattle.bx_line.specs.Flows.{Flow}
use Rattle.bx_dist.specs.declared.part.Part.{Part}
use Rattle.bx_dist.specs.declared.step.Step.{Step}
use Rattle.bx_dist.specs.declared.step.Step.TheVariants.{Idle}
use Rattle.bx_dist.specs.Residual.{IsOpen, step_from, step_to}
use Rattle.bx_dist.specs.Search.{IsStep}
use Rattle.bx_dist.specs.Tight.{AreSteps}
use Rattle.bx_dist.specs.Walks.{IsWalk}
use Rattle.bx_dist.specs.Inside.{Avoids, IsSimple}
use Rattle.bx_dist.proofs.Bounds.{open_is_step}
use Rattle.bx_dist.proofs.Sending.{next_step}

-- the rest of a walk from a place is one where the next step is open there and the rest after it is one
pub walk_rest : (part : Part) (line : Network) (flow : Flow) (place last : ℕ) (walk : List Step) (k : ℕ) → k < length walk → (IsWalk part line flow place last (drop k walk)) ↔ (IsOpen part line flow (get_or walk k (Idle 0)) × (step_from line (get_or walk k (Idle 0)) ≡ place) × IsWalk part line flow (step_to line (get_or walk k (Idle 0))) last (drop (k + 1) walk))
walk_rest part line flow place last walk k h =
    let next = next_step walk k h in
    (λ w. subst (IsWalk part line flow place last) next w, λ w. subst (IsWalk part line flow place last) (sym next) w)

pub simple_rest : (line : Network) (place : ℕ) (walk : List Step) (k : ℕ) → k < length walk → (IsSimple line place (drop k walk)) ↔ (Avoids line place (step_to line (get_or walk k (Idle 0))) (drop (k + 1) walk) × IsSimple line (step_to line (get_or walk k (Idle 0))) (drop (k + 1) walk))
simple_rest line place walk k h =
    let next = next_step walk k h in
    (λ w. subst (IsSimple line place) next w, λ w. subst (IsSimple line place) (sym next) w)

pub avoids_rest : (line : Network) (other place : ℕ) (walk : List Step) (k : ℕ) → k < length walk → (Avoids line other place (drop k walk)) ↔ ((other ≢ place) × Avoids line other (step_to line (get_or walk k (Idle 0))) (drop (k + 1) walk))
avoids_rest line other place walk k h =
    let next = next_step walk k h in
    (λ w. subst (Avoids line other place) next w, λ w. subst (Avoids line other place) (sym next) w)

-- the steps of a walk name places and rows that there are
pub walk_named : (part : Part) (line : Network) (flow : Flow) (from to : ℕ) (walk : List Step) → IsWalk part line flow from to walk → AreSteps line walk
walk_named part line flow from to [] w s c = absurd (omega (arith, c.1))
walk_named part line flow from to (step ∷ walk) w s (zero, b, e) = subst (IsStep line) e (open_is_step part line flow step w.0)
walk_named part line flow from to (step ∷ walk) w s (suc k, b, e) = walk_named part line flow (step_to line step) to walk w.2 s (k, omega (arith, b), e)
