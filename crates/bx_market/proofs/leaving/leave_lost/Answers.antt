use Rattle.std.proofs.Common.{◌≡◌, Bool, true, false, not, true≢false, Ok, refl, sym, ap, ◌∙◌}
use Rattle.std.proofs.lemmas.Result.{err_from_is_err_and}
use Rattle.bx_live.specs.Acts.{Synced}
use Rattle.bx_live.specs.Runs.{Between, Over}
use Rattle.bx_market.specs.Deals.{Lost, Moved}
use Rattle.bx_market.specs.Leaving.{IsLeftWhole}
use Rattle.bx_market.specs.Stands.{Within, Leaving, Left}
use Rattle.bx_market.proofs.Steps.{one_inside, one_asked, none_asked, then_asked}
use Rattle.bx_market.proofs.leaving.leave_lost.Goals.{then-is_done, else-is_done}
use Rattle.bx_market.proofs.leaving.leave_lost.Goals as goal

pub returns-then-same-clause-left : goal.returns-then-same-clause-left
returns-then-same-clause-left g c = none_asked c.args.channels g.met.W.Market.dealt_by g.met.W.World.did_nothing c.args.world.now (Within (Between c.args.exchange.now))

pub returns-in_err-is_done-clause-left : goal.returns-in_err-is_done-clause-left
returns-in_err-is_done-clause-left g c =
    let d = c.args.exchange.now in
    let p = err_from_is_err_and c.from_residual.result c.from_residual.ensures.1 in
    let bad = c.in_err-is_done.ensures.left d in
    rw p.1 (bad.0, then_asked g.met.W.Market.dealt_more (one_asked (Within (Between d)) (Leaving d d) (Lost d) c.lost.ensures (refl, refl) refl) bad.1)

pub returns-in_err-sync-clause-left : goal.returns-in_err-sync-clause-left
returns-in_err-sync-clause-left g c =
    let d = c.args.exchange.now in
    let d1 = c.leave_all.new.exchange in
    let p = err_from_is_err_and c.from_residual-in_err-sync.result c.from_residual-in_err-sync.ensures.1 in
    rw p.1 (
      d1,
      then_asked g.met.W.Market.dealt_more
          (then_asked g.met.W.Market.dealt_more (one_asked (Within (Between d)) (Leaving d d) (Lost d) c.lost.ensures (refl, refl) refl) (c.in_ok-is_done.ensures.left d))
          (one_inside c.args.channels g.met.W.Market.dealt_by (Leaving d d1) (Within (Over d1)) (Synced false) c.in_err-sync.ensures refl refl),
    )

pub returns-clause-left : goal.returns-clause-left
returns-clause-left g c =
    let d = c.args.exchange.now in
    let d1 = c.leave_all.new.exchange in
    let done : c.in_ok-is_done.is_done ≡ true → c.leave_all.result ≡ Ok true = λ is. c.in_ok-is_done.was ∙ ap (λ (b : Bool). Ok b) is in
    let whole : c.if-is_done.is_whole ≡ true → IsLeftWhole c.args.channels d d1 = λ h. elim c.if-is_done.branch [
      | then-is_done w ↦ record {
        left = λ any. true≢false (sym h ∙ w.is_whole-is ∙ ap not (w.is_any_to_leave-then-is_done.ensures.1 any));
        best = c.leave_all.ensures.best (done w.if-is_done.true);
      }
      | else-is_done w ↦ absurd (true≢false (sym h ∙ w.is_whole-is ∙ w.if-is_done.false))
    ] in
    then_asked g.met.W.Market.dealt_more
    (then_asked g.met.W.Market.dealt_more (one_asked (Within (Between d)) (Leaving d d) (Lost d) c.lost.ensures (refl, refl) refl) (c.in_ok-is_done.ensures.left d))
    (then_asked g.met.W.Market.dealt_more (one_inside c.args.channels g.met.W.Market.dealt_by (Leaving d d1) (Left d d1) (Synced true) c.in_ok-sync.ensures refl refl)
    (one_asked (Left d d1) (Within (Between d1)) (Moved d1 c.if-is_done.is_whole) c.moved.ensures (refl, whole, refl) refl))
