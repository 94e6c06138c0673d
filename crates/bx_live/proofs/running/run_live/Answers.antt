use Rattle.std.proofs.Common.{refl, sym, ◌∙◌, arith, true≢false}
use Rattle.std.proofs.lemmas.Result.{err_from_is_err_and}
use Rattle.bx_live.specs.Runs.{Between, Over}
use Rattle.bx_live.proofs.Steps.{none_ran, then_ran, as_run}
use Rattle.bx_live.proofs.Days.{run_day, closed_day_is, ended_inside, at_any}
use Rattle.bx_live.proofs.running.run_live.Goals as goal

pub returns-in_err-run_second-clause-ran : goal.returns-in_err-run_second-clause-ran
returns-in_err-run_second-clause-ran g c =
    let p = err_from_is_err_and c.from_residual.result c.from_residual.ensures.1 in
    let ran = then_ran g.met.W.World.did_more c.loop-second.invariant.so_far c.in_err-run_second.ensures.ran.run in
    rw p.1 (ran, run_day (Between c.args.exchange.now) (Over c.run_second.new.exchange) ran.acts ran.goes, tt)

pub returns-in-Ended-clause-ran : goal.returns-in-Ended-clause-ran
returns-in-Ended-clause-ran g c =
    let d = c.args.exchange.now in
    let d1 = c.run_second.new.exchange in
    let r = c.close_day.result in
    let second = (rw c.in-Ended.is at c.in_ok-run_second.ensures).ran in
    let so_far = c.loop-second.invariant.so_far in
    let close = as_run (c.close_day.ensures.at_ended d1) in
    let ran = then_ran g.met.W.World.did_more so_far (then_ran g.met.W.World.did_more second.run close) in
    let inside = ended_inside so_far.acts second.run.acts close.acts (second.said refl) in
    (ran, closed_day_is (Between d) d1 r ran.acts ran.goes, at_any r (λ none. absurd (true≢false (sym inside ∙ none))))

pub returns-clause-ran : goal.returns-clause-ran
returns-clause-ran g c =
    let l = c.loop-second in
    let d = c.args.exchange.now in
    let r = c.close_day-2.result in
    let ran = then_ran g.met.W.World.did_more l.invariant.so_far (as_run (c.close_day-2.ensures.at_last l.exchange)) in (
      ran,
      closed_day_is (Between d) l.exchange r ran.acts ran.goes,
      at_any r (λ none. omega (arith, l.invariant.moment, l.invariant.reached, c.min-end.ensures, c.loop-second-test.false, l.auto._second, c.moment-second.ensures.value)),
    )

pub returns-in-Ended-clause-whole : goal.returns-in-Ended-clause-whole
returns-in-Ended-clause-whole g c =
    let l = c.loop-second in
    at_any c.close_day.result (omega (arith, l.invariant.moment, l.invariant.reached, c.min-end.ensures, (rw c.in-Ended.is at c.in_ok-run_second.ensures).moment))

pub returns-clause-whole : goal.returns-clause-whole
returns-clause-whole g c =
    let l = c.loop-second in
    at_any c.close_day-2.result (omega (arith, l.invariant.moment, l.invariant.reached, c.min-end.ensures))

pub loop-second-init : goal.loop-second-init
loop-second-init g c = record {
  moment = sym c.moment-second.ensures.value;
  within = omega (arith, c.min-end.ensures);
  reached = omega (arith, c.moment-second.ensures.value);
  so_far = none_ran g.met.W.World.did_nothing c.args.world.now (Between c.args.exchange.now);
}

pub loop-second-preserved : goal.loop-second-preserved
loop-second-preserved g c =
    let l = c.loop-second in
    let passed = rw c.in-Passed.is at c.in_ok-run_second.ensures in
    record {
      moment = omega (arith, l.invariant.moment, passed.moment (omega (arith, l.invariant.moment, l.invariant.within, c.loop-second-test.true)));
      within = l.invariant.within;
      reached = omega (arith, c.loop-second-test.true);
      so_far = then_ran g.met.W.World.did_more l.invariant.so_far passed.ran.run;
    }
