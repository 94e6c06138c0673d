use Rattle.std.proofs.Common.{◌≡◌, ℕ, length, get_or}
use Rattle.std.specs.BinaryHeap.{heap_items}
use Rattle.std.specs.List.{Contains}
use Rattle.bx_heap.proofs.waiting.Waiting.next_unsettled.Given as goal

abbrev pub invariant-loop-place : goal.invariant-loop-place
invariant-loop-place l =
    record {
      kept : (n v : ℕ) → Contains (heap_items l.initial.self.places) (n, v) → get_or l.ranks v 0 ≡ 0 → Contains (heap_items l.self.places) (n, v);
      only : (n v : ℕ) → Contains (heap_items l.self.places) (n, v) → Contains (heap_items l.initial.self.places) (n, v);
    }

abbrev pub decreases-loop-place : goal.decreases-loop-place
decreases-loop-place l = length (heap_items l.self.places)
