use Rattle.std.proofs.Common.{◌≡◌, ◌≤◌}
use Rattle.bx_live.specs.Runs.{Between}
use Rattle.bx_market.specs.Stands.{Within, IsHeldMarketRun, Deals}
use Rattle.bx_market.proofs.running.run_market.Given as goal

abbrev pub invariant-loop-second : goal.invariant-loop-second
invariant-loop-second g l = record {
  moment : l.exchange.moment ≡ l._second;
  within : l._second ≤ 300000;
  so_far : (run : Deals g.W.Market.dealt l.fn.channels l.fn.world l.world (Within (Between l.fn.exchange)) (Within (Between l.exchange))) × IsHeldMarketRun l.fn.channels l.last (Within (Between l.fn.exchange)) run.deals (Within (Between l.exchange));
}
