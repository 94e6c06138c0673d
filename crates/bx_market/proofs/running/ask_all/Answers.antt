use Rattle.std.proofs.Common.{refl, ◌∙◌}
use Rattle.std.proofs.lemmas.Result.{err_from_is_err_and}
use Rattle.bx_live.specs.Runs.{Between}
use Rattle.bx_market.specs.Stands.{Within}
use Rattle.bx_market.proofs.Steps.{none_asked, then_asked}
use Rattle.bx_market.proofs.running.ask_all.Goals as goal

pub loop-request-init : goal.loop-request-init
loop-request-init g c = record {
  run = none_asked c.args.channels g.met.W.Market.dealt_by g.met.W.World.did_nothing c.args.world.now (Within (Between c.args.exchange.now));
  moment = refl;
}

pub returns-in_err-is_asked-clause-sold : goal.returns-in_err-is_asked-clause-sold
returns-in_err-is_asked-clause-sold g c =
    let p = err_from_is_err_and c.from_residual.result c.from_residual.ensures.1 in
    let bad = c.in_err-is_asked.ensures.sold in
    rw p.1 (bad.0, then_asked g.met.W.Market.dealt_more c.loop-request.invariant.run bad.1)

pub returns-then-not-is_asked-clause-sold : goal.returns-then-not-is_asked-clause-sold
returns-then-not-is_asked-clause-sold g c = then_asked g.met.W.Market.dealt_more c.loop-request.invariant.run c.in_ok-is_asked.ensures.sold

pub loop-request-preserved : goal.loop-request-preserved
loop-request-preserved g c = record {
  run = then_asked g.met.W.Market.dealt_more c.loop-request.invariant.run c.in_ok-is_asked.ensures.sold;
  moment = c.in_ok-is_asked.ensures.moment ∙ c.loop-request.invariant.moment;
}
