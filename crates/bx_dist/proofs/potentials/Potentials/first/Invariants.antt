use Rattle.std.proofs.Common.{◌-◌}
use Rattle.bx_dist.specs.Passing.{IsPassed}
use Rattle.bx_dist.proofs.potentials.Potentials.first.Given as goal

abbrev pub invariant-loop-next : goal.invariant-loop-next
invariant-loop-next l = IsPassed l.line (l.next - 1) l.lengths.items
