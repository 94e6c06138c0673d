use Rattle.std.proofs.Common.{◌≡◌, ◌≤◌, max}
use Rattle.bx_live.specs.Runs.{Between}
use Rattle.bx_live.specs.Running.{Runs}
use Rattle.bx_live.proofs.running.run_live.Given as goal

abbrev pub invariant-loop-second : goal.invariant-loop-second
invariant-loop-second g l = record {
  moment : l.exchange.moment ≡ l._second;
  within : l.end ≤ 300000;
  reached : l._second ≤ max l.fn.exchange.moment l.end;
  so_far : Runs g.W.World.did l.fn.world l.world (Between l.fn.exchange) (Between l.exchange);
}
