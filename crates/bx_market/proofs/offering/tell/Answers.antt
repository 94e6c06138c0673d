use Rattle.std.proofs.Common.{refl, true, false}
use Rattle.std.proofs.lemmas.Result.{err_from_is_err_and}
use Rattle.bx_live.specs.Acts.{Synced}
use Rattle.bx_live.specs.Runs.{Between, Over}
use Rattle.bx_market.specs.Deals.{Answered, sold_of}
use Rattle.bx_market.specs.Stands.{Within, Filing, Telling}
use Rattle.bx_market.proofs.Steps.{one_inside, one_asked, then_asked}
use Rattle.bx_market.proofs.offering.tell.Goals as goal

pub returns-in_err-sync : goal.returns-in_err-sync
returns-in_err-sync g c channels shown d tag batch told none =
    let p = err_from_is_err_and c.from_residual.result c.from_residual.ensures.1 in
    rw p.1 (d, one_inside channels g.met.W.Market.dealt_by (Filing shown d tag batch (sold_of batch c.args.answers.now)) (Within (Over d)) (Synced false) c.in_err-sync.ensures refl refl)

pub returns : goal.returns
returns g c channels shown d tag batch told none =
    let sold = sold_of batch c.args.answers.now in
    then_asked g.met.W.Market.dealt_more
    (one_inside channels g.met.W.Market.dealt_by (Filing shown d tag batch sold) (Telling shown d tag batch sold) (Synced true) c.in_ok-sync.ensures refl refl)
    (one_asked (Telling shown d tag batch sold) (Within (Between d)) (Answered c.args.answers.now) c.answer-2.ensures (refl, told, refl) refl)
