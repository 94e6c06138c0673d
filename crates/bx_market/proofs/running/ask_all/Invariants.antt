use Rattle.std.proofs.Common.{◌≡◌}
use Rattle.bx_live.specs.Runs.{Between}
use Rattle.bx_market.specs.Stands.{Within}
use Rattle.bx_market.specs.Offers.{Asks}
use Rattle.bx_market.proofs.running.ask_all.Given as goal

abbrev pub invariant-loop-request : goal.invariant-loop-request
invariant-loop-request g l = record {
  run : Asks g.W.Market.dealt l.fn.channels l.fn.world l.world (Within (Between l.fn.exchange)) (Within (Between l.exchange));
  moment : l.exchange.moment ≡ l.fn.exchange.moment;
}
