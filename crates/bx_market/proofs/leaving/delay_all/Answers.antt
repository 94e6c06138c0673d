use Rattle.std.proofs.Common.{◌≡◌, ◌<◌, true, length, Ok, refl, ap, subst, ◌∙◌, inl, inr, arith, rules}
use Rattle.std.proofs.lemmas.Bool.{cases_eq}
use Rattle.std.proofs.lemmas.Result.{err_from_is_err_and}
use Rattle.bx_market.specs.LeavingSteps.{IsBehind}
use Rattle.bx_market.proofs.KeptStays.{marks_later}
use Rattle.bx_market.proofs.LeavingSteps.{no_step}
use Rattle.bx_market.proofs.StillThere.{behind_before}
use Rattle.bx_market.proofs.Steps.{then_asked}
use Rattle.bx_market.proofs.leaving.delay_all.Goals as goal

pub loop-place-init : goal.loop-place-init
loop-place-init g c = record {
  moment = refl;
  count = refl;
  marks = refl;
  none = λ i lt. absurd (omega (arith, lt));
  run = λ channels shown. no_step channels g.met.W.Market.dealt_by shown c.args.exchange.now c.args.exchange.now g.met.W.World.did_nothing c.args.world.now refl;
}

pub delay_one-requires : goal.delay_one-requires
delay_one-requires g c = let n = ap length c.entries-place-end.ensures in omega (arith, c.loop-place-test.true, n, c.loop-place.invariant.count)

pub loop-place-preserved : goal.loop-place-preserved
loop-place-preserved g c =
    let l = c.loop-place in
    let others = c.delay_one.ensures.others in
    let inside : l.place < length l.exchange.entries = let n = ap length c.entries-place-end.ensures in omega (arith, c.loop-place-test.true, n, l.invariant.count) in
    let done : c.delay_one.result ≡ Ok true = search rules in
    record {
      moment = others.moment ∙ l.invariant.moment;
      count = others.count ∙ l.invariant.count;
      marks = marks_later l.place l.exchange c.delay_one.new.exchange inside others c.delay_one.ensures.later ∙ l.invariant.marks;
      none = λ i less behind. elim (cases_eq i l.place) [
        | inl here ↦ c.delay_one.ensures.done done (subst (IsBehind c.args.channels c.delay_one.new.exchange) here behind)
        | inr other ↦ l.invariant.none i (omega (arith, less, other)) (behind_before c.args.channels l.place i l.exchange c.delay_one.new.exchange others other behind)
      ];
      run = λ channels shown. then_asked g.met.W.Market.dealt_more (l.invariant.run channels shown) (c.in_ok-is_done.ensures.delayed channels shown);
    }

pub returns-in_err-is_done-clause-delayed : goal.returns-in_err-is_done-clause-delayed
returns-in_err-is_done-clause-delayed g c channels shown =
    let p = err_from_is_err_and c.from_residual.result c.from_residual.ensures.1 in
    let bad = c.in_err-is_done.ensures.delayed channels shown in
    rw p.1 (bad.0, then_asked g.met.W.Market.dealt_more (c.loop-place.invariant.run channels shown) bad.1)

pub returns-in_err-is_done-clause-moment : goal.returns-in_err-is_done-clause-moment
returns-in_err-is_done-clause-moment g c = c.delay_one.ensures.others.moment ∙ c.loop-place.invariant.moment

pub returns-in_err-is_done-clause-marks : goal.returns-in_err-is_done-clause-marks
returns-in_err-is_done-clause-marks g c =
    let l = c.loop-place in
    let inside : l.place < length l.exchange.entries = let n = ap length c.entries-place-end.ensures in omega (arith, c.loop-place-test.true, n, l.invariant.count) in
    marks_later l.place l.exchange c.delay_one.new.exchange inside c.delay_one.ensures.others c.delay_one.ensures.later ∙ l.invariant.marks

pub returns-then-not-is_done-clause-delayed : goal.returns-then-not-is_done-clause-delayed
returns-then-not-is_done-clause-delayed g c channels shown = then_asked g.met.W.Market.dealt_more (c.loop-place.invariant.run channels shown) (c.in_ok-is_done.ensures.delayed channels shown)

pub returns-then-not-is_done-clause-moment : goal.returns-then-not-is_done-clause-moment
returns-then-not-is_done-clause-moment g c = c.delay_one.ensures.others.moment ∙ c.loop-place.invariant.moment

pub returns-then-not-is_done-clause-marks : goal.returns-then-not-is_done-clause-marks
returns-then-not-is_done-clause-marks g c =
    let l = c.loop-place in
    let inside : l.place < length l.exchange.entries = let n = ap length c.entries-place-end.ensures in omega (arith, c.loop-place-test.true, n, l.invariant.count) in
    marks_later l.place l.exchange c.delay_one.new.exchange inside c.delay_one.ensures.others c.delay_one.ensures.later ∙ l.invariant.marks

pub returns-clause-delayed : goal.returns-clause-delayed
returns-clause-delayed g c channels shown = c.loop-place.invariant.run channels shown

pub returns-clause-moment : goal.returns-clause-moment
returns-clause-moment g c = c.loop-place.invariant.moment

pub returns-clause-marks : goal.returns-clause-marks
returns-clause-marks g c = c.loop-place.invariant.marks

pub returns-clause-done : goal.returns-clause-done
returns-clause-done g c = λ e i behind.
    let l = c.loop-place in
    let inside = behind.to_leave.stranded.inside in
    let n = ap length c.entries-place-end.ensures in
    l.invariant.none i (omega (arith, inside, n, l.invariant.count, c.loop-place-test.false)) behind

pub returns-in_err-is_done-clause-done : goal.returns-in_err-is_done-clause-done
returns-in_err-is_done-clause-done g c = λ e. absurd (let p = err_from_is_err_and c.from_residual.result c.from_residual.ensures.1 in cc)

pub returns-then-not-is_done-clause-done : goal.returns-then-not-is_done-clause-done
returns-then-not-is_done-clause-done g c = λ e. absurd cc
