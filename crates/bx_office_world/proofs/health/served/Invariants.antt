use Rattle.std.proofs.Common.{◌≡◌, ◌≤◌}
use Rattle.bx_office_world.specs.Health.{served_below}
use Rattle.bx_office_world.proofs.health.served.Given as goal

abbrev pub invariant-loop-number : goal.invariant-loop-number
invariant-loop-number l = record {
  so_far : l.count ≡ served_below l.exchange l.channels l.number;
  few : l.count ≤ l.number;
}
