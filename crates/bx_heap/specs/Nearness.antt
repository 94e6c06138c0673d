-- Private: a heap of places with how near each is.
use Rattle.std.specs.Prelude.{◌≡◌, ℕ, ◌≤◌, List, Contains, slice_index, ◌⊎◌, Option, Some}
use Rattle.std.specs.Ordering.{nat_cmp, ordering_then}
use Rattle.std.specs.declared.cmp.Ordering.{Ordering}

-- its order: the nearest is the greatest
abbrev pub by_nearness : ℕ × ℕ → ℕ × ℕ → Ordering
by_nearness x y = ordering_then (nat_cmp x.0 y.0) (nat_cmp x.1 y.1)

-- the place has no rank yet, and is in the heap as near as any other that has none
abbrev pub IsNearest : List ℕ → List (ℕ × ℕ) → ℕ → Type 0
IsNearest ranks heap place = (n : ℕ) × Contains heap (n, place) × (slice_index ranks place ≡ 0) × ((m v : ℕ) → Contains heap (m, v) → slice_index ranks v ≡ 0 → m ≤ n)

-- what has no rank yet stays in the heap, or is what was taken
abbrev pub KeepsUnranked : List ℕ → List (ℕ × ℕ) → List (ℕ × ℕ) → Option ℕ → Type 0
KeepsUnranked ranks old new taken =
    (n v : ℕ) → Contains old (n, v) → slice_index ranks v ≡ 0 → Contains new (n, v) ⊎ (taken ≡ Some v)
