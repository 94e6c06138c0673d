use Rattle.std.proofs.Common.{length, ◌-◌, ◌≤◌}
use Rattle.bx_colour.specs.Counted.{counted_to}
use Rattle.bx_colour.proofs.load.come_by.Given as goal

abbrev pub invariant-loop-count : goal.invariant-loop-count
invariant-loop-count l = l.count ≤ counted_to l.moments l.moment

abbrev pub decreases-loop-count : goal.decreases-loop-count
decreases-loop-count l = length l.moments - l.count
