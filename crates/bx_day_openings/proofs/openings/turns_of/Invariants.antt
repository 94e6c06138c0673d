use Rattle.std.proofs.Common.{◌≤◌}
use Rattle.bx_day_openings.specs.Openings.{IsLastOf}
use Rattle.bx_day_openings.proofs.openings.turns_of.Given as goal

abbrev pub invariant-loop-index : goal.invariant-loop-index
invariant-loop-index l = record {
  limit : (1 ≤ l.turns) × (l.turns ≤ 200038);
  last : IsLastOf l.plan.bookings l.plan.assigned.items l.index l.turns;
}
