use Rattle.std.proofs.Common.{◌≡◌, ◌≤◌, ◌+◌, ◌-◌, length, drop}
use Rattle.bx_journal.specs.Numbers.{space_at}
use Rattle.bx_journal.proofs.numbers.space_at.Given as goal

abbrev pub invariant-loop-at : goal.invariant-loop-at
invariant-loop-at l = record {
  so_far : l.at + space_at (drop l.at l.octets) ≡ space_at l.octets;
  within : l.at ≤ length l.octets;
}

abbrev pub decreases-loop-at : goal.decreases-loop-at
decreases-loop-at l = length l.octets - l.at
