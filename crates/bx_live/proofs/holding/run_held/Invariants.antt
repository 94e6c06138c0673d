use Rattle.std.proofs.Common.{◌≡◌, ◌≤◌}
use Rattle.bx_live.specs.Held.{AreHeld}
use Rattle.bx_live.specs.Runs.{Between}
use Rattle.bx_live.specs.Running.{Runs}
use Rattle.bx_live.proofs.holding.run_held.Given as goal

abbrev pub invariant-loop-second : goal.invariant-loop-second
invariant-loop-second g l = record {
  moment : l.exchange.moment ≡ l._second;
  within : l._second ≤ 300000;
  so_far : (ran : Runs g.W.World.did l.fn.world l.world (Between l.fn.exchange) (Between l.exchange)) × AreHeld l.last l.fn.exchange ran.acts;
}
