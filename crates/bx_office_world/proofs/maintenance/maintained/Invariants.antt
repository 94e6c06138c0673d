use Rattle.std.proofs.Common.{◌≡◌, ◌≤◌}
use Rattle.bx_office_world.specs.Maintenance.{maintained_below}
use Rattle.bx_office_world.proofs.maintenance.maintained.Given as goal

abbrev pub invariant-loop-number : goal.invariant-loop-number
invariant-loop-number l = record {
  so_far : l.count ≡ maintained_below l.exchange l.number;
  few : l.count ≤ l.number;
}
