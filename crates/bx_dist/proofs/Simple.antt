-- Walks that meet no place twice, step by step.
use Rattle.std.proofs.Common.{◌≢◌, ℕ, zero, suc, ◌<◌, List, [], ◌∷◌, get_or, ap, arith}
use Rattle.std.specs.List.{All, AllPairs}
use Rattle.std.proofs.lemmas.List.Elements.{All-nil, All-cons, All-head, All-tail}
use Rattle.std.proofs.lemmas.List.Kept.{AllPairs-cons}
use Rattle.bx_line.specs.Network.{Network}
use Rattle.bx_dist.specs.declared.step.Step.{Step}
use Rattle.bx_dist.specs.Residual.{step_to}
use Rattle.bx_dist.specs.Walks.{places_met}
use Rattle.bx_dist.specs.Inside.{Avoids, IsSimple}

pub avoids_from_all : (line : Network) (x from : ℕ) (walk : List Step) → All (λ b. x ≢ b) (places_met line from walk) → Avoids line x from walk
avoids_from_all line x from [] h = All-head (λ b. x ≢ b) from [] h
avoids_from_all line x from (step ∷ walk) h = (All-head (λ b. x ≢ b) from (places_met line (step_to line step) walk) h, avoids_from_all line x (step_to line step) walk (All-tail (λ b. x ≢ b) from (places_met line (step_to line step) walk) h))

pub all_from_avoids : (line : Network) (x from : ℕ) (walk : List Step) → Avoids line x from walk → All (λ b. x ≢ b) (places_met line from walk)
all_from_avoids line x from [] h = All-cons (λ b. x ≢ b) from [] h (All-nil (λ b. x ≢ b))
all_from_avoids line x from (step ∷ walk) h = All-cons (λ b. x ≢ b) from (places_met line (step_to line step) walk) h.0 (all_from_avoids line x (step_to line step) walk h.1)

-- pairs of a list, by its head and its tail
pairs_head : (x : ℕ) (xs : List ℕ) → AllPairs (λ a b. a ≢ b) (x ∷ xs) → All (λ b. x ≢ b) xs
pairs_head x xs h = λ k d b. h zero (suc k) d (omega arith) (omega arith)

pairs_tail : (x : ℕ) (xs : List ℕ) → AllPairs (λ a b. a ≢ b) (x ∷ xs) → AllPairs (λ a b. a ≢ b) xs
pairs_tail x xs h = λ i j d l b. h (suc i) (suc j) d (omega arith) (omega arith)

pub simple_from_pairs : (line : Network) (from : ℕ) (walk : List Step) → AllPairs (λ a b. a ≢ b) (places_met line from walk) → IsSimple line from walk
simple_from_pairs line from [] h = tt
simple_from_pairs line from (step ∷ walk) h =
    let rest = places_met line (step_to line step) walk in
    (avoids_from_all line from (step_to line step) walk (pairs_head from rest h), simple_from_pairs line (step_to line step) walk (pairs_tail from rest h))

one_pair : (x : ℕ) → AllPairs (λ a b. a ≢ b) (x ∷ [])
one_pair x = λ i j d l b. absurd (omega arith)

pub pairs_from_simple : (line : Network) (from : ℕ) (walk : List Step) → IsSimple line from walk → AllPairs (λ a b. a ≢ b) (places_met line from walk)
pairs_from_simple line from [] h = one_pair from
pairs_from_simple line from (step ∷ walk) h = AllPairs-cons (λ a b. a ≢ b) from (places_met line (step_to line step) walk) (all_from_avoids line from (step_to line step) walk h.0) (pairs_from_simple line (step_to line step) walk h.1)

-- ---- a walk along which ranks rise

module _ (line : Network) (ranks : List ℕ) where
  abbrev pub RanksRise : ℕ → List Step → Type 0
  RanksRise from [] = Unit {0}
  RanksRise from (step ∷ walk) = (get_or ranks from 0 < get_or ranks (step_to line step) 0) × RanksRise (step_to line step) walk

  avoids_lower : (x from : ℕ) (walk : List Step) → get_or ranks x 0 < get_or ranks from 0 → RanksRise from walk → Avoids line x from walk
  avoids_lower x from [] h r = λ e. omega (arith, h, ap (λ (w : ℕ). get_or ranks w 0) e)
  avoids_lower x from (step ∷ walk) h r = (λ e. omega (arith, h, ap (λ (w : ℕ). get_or ranks w 0) e), avoids_lower x (step_to line step) walk (omega (arith, h, r.0)) r.1)

  pub simple_from_rising : (from : ℕ) (walk : List Step) → RanksRise from walk → IsSimple line from walk
  simple_from_rising from [] r = tt
  simple_from_rising from (step ∷ walk) r = (avoids_lower from (step_to line step) walk r.0 r.1, simple_from_rising (step_to line step) walk r.1)
