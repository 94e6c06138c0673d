use Rattle.std.proofs.Common.{refl, Some, None}
use Rattle.std.proofs.lemmas.Result.{err_from_is_err_and}
use Rattle.bx_live.specs.Runs.{Between}
use Rattle.bx_market.specs.Deals.{Asked}
use Rattle.bx_market.specs.Stands.{Within, asked_for}
use Rattle.bx_market.proofs.Steps.{one_asked, then_asked}
use Rattle.bx_market.proofs.running.ask_once.Goals as goal

pub returns-in_err-serve-in-Some-clause-sold : goal.returns-in_err-serve-in-Some-clause-sold
returns-in_err-serve-in-Some-clause-sold g c =
    let p = err_from_is_err_and c.from_residual.result c.from_residual.ensures.1 in
    let d = c.args.exchange.now in
    let request = c.in-Some.request in
    let bad = c.in_err-serve-in-Some.ensures.served in
    rw p.1 (bad.0, then_asked g.met.W.Market.dealt_more (one_asked (Within (Between d)) (asked_for d request) (Asked d (Some request)) c.in-Some.ensures (refl, refl) refl) bad.1)

pub returns-in_ok-serve-in-Some-clause-sold : goal.returns-in_ok-serve-in-Some-clause-sold
returns-in_ok-serve-in-Some-clause-sold g c =
    let d = c.args.exchange.now in
    let request = c.in-Some.request in
    then_asked g.met.W.Market.dealt_more (one_asked (Within (Between d)) (asked_for d request) (Asked d (Some request)) c.in-Some.ensures (refl, refl) refl) c.in_ok-serve-in-Some.ensures.served

pub returns-in-None-clause-sold : goal.returns-in-None-clause-sold
returns-in-None-clause-sold g c =
    let d = c.args.exchange.now in
    one_asked (Within (Between d)) (Within (Between d)) (Asked d None) c.in-None.ensures (refl, refl) refl
