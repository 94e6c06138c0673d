use Rattle.std.proofs.Common.{◌≡◌}
use Rattle.bx_line.specs.Flows.{Flow}
use Rattle.bx_line.specs.Network.{Network}
use Rattle.bx_dist.specs.declared.part.Part.{Part}
use Rattle.bx_heap.specs.Searching.{state_from, setting_of, IsResting}
use Rattle.bx_heap.proofs.frontier.Frontier.file.Given as goal

abbrev pub invariant-loop-place : goal.invariant-loop-place
invariant-loop-place l =
    record {
      resting : (part : Part) (line : Network) (flow : Flow) → IsResting (setting_of part line flow l.potentials) (state_from l.initial.self) → IsResting (setting_of part line flow l.potentials) (state_from l.self);
      tight : l.self.tight.items ≡ l.initial.self.tight.items;
      count : l.self.count ≡ l.initial.self.count;
    }

abbrev pub decreases-loop-place : goal.decreases-loop-place
decreases-loop-place l = goal.left-loop-place l
