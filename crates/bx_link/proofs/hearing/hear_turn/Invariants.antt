use Rattle.std.proofs.Common.{◌≤◌, ◌≡◌}
use Rattle.bx_link.specs.Runs.{Hearing}
use Rattle.bx_link.specs.Running.{FarRuns}
use Rattle.bx_link.proofs.hearing.hear_turn.Given as goal

abbrev pub invariant-loop-octets : goal.invariant-loop-octets
invariant-loop-octets g l = record {
  within : l.room ≤ 64;
  limit : l.moment ≤ 300000;
  reached : l.far.moment ≡ l.moment;
  begun : l.moment ≡ l.fn.far.moment;
  so_far : FarRuns g.W.World.did l.fn.world l.world (Hearing l.fn.far 64) (Hearing l.far l.room);
}

abbrev pub decreases-loop-octets : goal.decreases-loop-octets
decreases-loop-octets g l = l.room
