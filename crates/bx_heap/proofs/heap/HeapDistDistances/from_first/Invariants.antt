use Rattle.std.proofs.Common.{◌-◌}
use Rattle.bx_line.specs.Network.{places_of}
use Rattle.bx_heap.specs.Searching.{state_from, setting_of, IsResting}
use Rattle.bx_heap.proofs.heap.HeapDistDistances.from_first.Given as goal

abbrev pub invariant-loop-front : goal.invariant-loop-front
invariant-loop-front l = IsResting (setting_of l.part l.line l.carried l.potentials) (state_from l.front)

abbrev pub decreases-loop-front : goal.decreases-loop-front
decreases-loop-front l = places_of l.line - l.front.count
