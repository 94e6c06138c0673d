use Rattle.std.proofs.Common.{◌≡◌, ◌<◌, ℕ, true, length, Ok, refl, subst, ◌∙◌, arith, rules}
use Rattle.std.proofs.lemmas.Result.{err_from_is_err_and}
use Rattle.bx_market.proofs.KeptStays.{AreSettledUpTo, none_settled, one_settled, all_settled}
use Rattle.bx_market.proofs.LeavingSteps.{no_step}
use Rattle.bx_market.proofs.Steps.{then_asked}
use Rattle.bx_market.proofs.leaving.drop_all.Goals as goal

pub loop-place-init : goal.loop-place-init
loop-place-init g c = record {
  settled = none_settled c.args.chosen.now c.args.exchange.now;
  run = λ channels shown. no_step channels g.met.W.Market.dealt_by shown c.args.exchange.now c.args.exchange.now g.met.W.World.did_nothing c.args.world.now refl;
}

pub drop_one-requires : goal.drop_one-requires
drop_one-requires g c = omega (arith, c.loop-place-test.true, c.requires.count, c.loop-place.invariant.settled.count)

pub loop-place-preserved : goal.loop-place-preserved
loop-place-preserved g c =
    let l = c.loop-place in
    let d = c.args.exchange.now in
    let inside : l.place < length d.entries = omega (arith, c.loop-place-test.true, c.requires.count) in
    let done : c.drop_one.result ≡ Ok true = search rules in
    record {
      settled = one_settled c.args.chosen.now l.place d l.exchange c.drop_one.new.exchange l.invariant.settled inside c.drop_one.ensures.others _ refl (c.drop_one.ensures.done done);
      run = λ channels shown. then_asked g.met.W.Market.dealt_more (l.invariant.run channels shown) (c.in_ok-is_done.ensures.dropped channels shown);
    }

pub returns-in_err-is_done-clause-dropped : goal.returns-in_err-is_done-clause-dropped
returns-in_err-is_done-clause-dropped g c channels shown =
    let p = err_from_is_err_and c.from_residual.result c.from_residual.ensures.1 in
    let bad = c.in_err-is_done.ensures.dropped channels shown in
    rw p.1 (bad.0, then_asked g.met.W.Market.dealt_more (c.loop-place.invariant.run channels shown) bad.1)

pub returns-in_err-is_done-clause-moment : goal.returns-in_err-is_done-clause-moment
returns-in_err-is_done-clause-moment g c = c.drop_one.ensures.others.moment ∙ c.loop-place.invariant.settled.moment

pub returns-in_err-is_done-clause-done : goal.returns-in_err-is_done-clause-done
returns-in_err-is_done-clause-done g c = λ e. absurd (let p = err_from_is_err_and c.from_residual.result c.from_residual.ensures.1 in cc)

pub returns-then-not-is_done-clause-dropped : goal.returns-then-not-is_done-clause-dropped
returns-then-not-is_done-clause-dropped g c channels shown = then_asked g.met.W.Market.dealt_more (c.loop-place.invariant.run channels shown) (c.in_ok-is_done.ensures.dropped channels shown)

pub returns-then-not-is_done-clause-moment : goal.returns-then-not-is_done-clause-moment
returns-then-not-is_done-clause-moment g c = c.drop_one.ensures.others.moment ∙ c.loop-place.invariant.settled.moment

pub returns-then-not-is_done-clause-done : goal.returns-then-not-is_done-clause-done
returns-then-not-is_done-clause-done g c = λ e. absurd cc

pub returns-clause-dropped : goal.returns-clause-dropped
returns-clause-dropped g c channels shown = c.loop-place.invariant.run channels shown

pub returns-clause-moment : goal.returns-clause-moment
returns-clause-moment g c = c.loop-place.invariant.settled.moment

pub returns-clause-done : goal.returns-clause-done
returns-clause-done g c = λ e.
    let l = c.loop-place in
    let at : l.place ≡ length c.args.chosen.now = omega (arith, c.loop-place-test.false, l.auto.place-end) in
    all_settled c.args.chosen.now c.args.exchange.now l.exchange c.requires.count c.requires.among (subst (λ (k : ℕ). AreSettledUpTo c.args.chosen.now k c.args.exchange.now l.exchange) at l.invariant.settled)
