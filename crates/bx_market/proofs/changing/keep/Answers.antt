use Rattle.std.proofs.Common.{refl, true, false, Ok}
use Rattle.std.proofs.lemmas.Result.{err_from_is_err_and}
use Rattle.bx_events.specs.Events.{Amended}
use Rattle.bx_live.specs.Acts.{Logged, Synced}
use Rattle.bx_live.specs.Runs.{Between, Over}
use Rattle.bx_market.specs.Deals.{ToldOfChange}
use Rattle.bx_market.specs.Stands.{Within, Changing, Noted, Kept}
use Rattle.bx_market.proofs.Steps.{one_inside, one_asked, then_asked}
use Rattle.bx_market.proofs.changing.keep.Goals as goal

pub returns-in_err-log : goal.returns-in_err-log
returns-in_err-log g c channels shown d request is tells =
    let p = err_from_is_err_and c.from_residual.result c.from_residual.ensures.1 in
    rw p.1 (shown, one_inside channels g.met.W.Market.dealt_by (Changing shown request) (Within (Over shown)) (Logged (Amended c.args.kind c.args.line.now) false) c.in_err-log.ensures refl refl)

pub returns-in_err-sync : goal.returns-in_err-sync
returns-in_err-sync g c channels shown d request is tells =
    let p = err_from_is_err_and c.from_residual-in_err-sync.result c.from_residual-in_err-sync.ensures.1 in
    let logged = one_inside channels g.met.W.Market.dealt_by (Changing shown request) (Noted shown d request) (Logged (Amended c.args.kind c.args.line.now) true) c.in_ok-log.ensures (d, is, tells, refl) refl in
    rw p.1 (d, then_asked g.met.W.Market.dealt_more logged (one_inside channels g.met.W.Market.dealt_by (Noted shown d request) (Within (Over d)) (Synced false) c.in_err-sync.ensures refl refl))

pub returns : goal.returns
returns g c channels shown d request is tells =
    let logged = one_inside channels g.met.W.Market.dealt_by (Changing shown request) (Noted shown d request) (Logged (Amended c.args.kind c.args.line.now) true) c.in_ok-log.ensures (d, is, tells, refl) refl in
    let synced = one_inside channels g.met.W.Market.dealt_by (Noted shown d request) (Kept shown d request) (Synced true) c.in_ok-sync.ensures refl refl in
    let told = one_asked (Kept shown d request) (Within (Between d)) (ToldOfChange (Ok tt)) c.answer_change.ensures refl refl in
    then_asked g.met.W.Market.dealt_more logged (then_asked g.met.W.Market.dealt_more synced told)
