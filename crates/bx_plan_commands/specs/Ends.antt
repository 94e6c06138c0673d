-- Private: how a booking that ends where another begins is found.
use Rattle.std.specs.Prelude.{ℕ, List, length}
use Rattle.std.specs.List.Sorted.{IsPermutation, IsSorted}
use Rattle.std.specs.Ordering.{nat_cmp, ordering_then}
use Rattle.std.specs.declared.cmp.Ordering.{Ordering}
use Rattle.bx_base.specs.PlanParts.{Parts}
use Rattle.bx_plan_commands.specs.Notes.{ends_below}

-- by channel, and on one channel by the second
abbrev pub end_cmp : ℕ × ℕ → ℕ × ℕ → Ordering
end_cmp a b = ordering_then (nat_cmp a.0 b.0) (nat_cmp a.1 b.1)

-- the ends of all accepted rows, in that order
pub record AreEnds (plan : Parts) (ends : List (ℕ × ℕ)) : Type 0 where
  pub all : IsPermutation (ends_below plan (length plan.rows)) ends
  pub sorted : IsSorted end_cmp ends
