use Rattle.std.proofs.Common.{◌≤◌, ◌≡◌}
use Rattle.bx_live.specs.Runs.{Hearing}
use Rattle.bx_live.specs.Running.{RunsInside}
use Rattle.bx_live.proofs.hearing.hear_turn.Given as goal

abbrev pub invariant-loop-octets : goal.invariant-loop-octets
invariant-loop-octets g l = record {
  within : l.room ≤ 64;
  moment : l.exchange.moment ≡ l.fn.exchange.moment;
  so_far : RunsInside g.W.World.did l.fn.world l.world (Hearing l.fn.exchange 64) (Hearing l.exchange l.room);
}

abbrev pub decreases-loop-octets : goal.decreases-loop-octets
decreases-loop-octets g l = l.room
