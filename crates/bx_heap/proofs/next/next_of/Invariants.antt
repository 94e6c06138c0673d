use Rattle.std.proofs.Common.{◌≡◌, ℕ, ◌≤◌, length, get_or}
use Rattle.std.specs.List.{Contains}
use Rattle.bx_heap.proofs.next.next_of.Given as goal

abbrev pub invariant-loop-place : goal.invariant-loop-place
invariant-loop-place l =
    record {
      kept : (v : ℕ) → Contains l.initial.places.items v → get_or l.ranks v 0 ≡ 0 → Contains l.places.items v;
      only : (v : ℕ) → Contains l.places.items v → Contains l.initial.places.items v;
      fewer : length l.places.items ≤ length l.initial.places.items;
    }

abbrev pub decreases-loop-place : goal.decreases-loop-place
decreases-loop-place l = goal.left-loop-place l
