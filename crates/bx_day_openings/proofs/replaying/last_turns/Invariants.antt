use Rattle.std.proofs.Common.{◌≤◌}
use Rattle.bx_day_openings.specs.Openings.{IsLastOfDay}
use Rattle.bx_day_openings.proofs.replaying.last_turns.Given as goal

abbrev pub invariant-loop-index : goal.invariant-loop-index
invariant-loop-index l = record {
  limit : (1 ≤ l.turns) × (l.turns ≤ 200038);
  last : IsLastOfDay l.entries l.index l.turns;
}
