use Rattle.std.proofs.Common.{rules, sym, inl, inr, arith}
use Rattle.std.proofs.lemmas.Result.{err_from_is_err_and}
use Rattle.bx_live.specs.Runs.{Between}
use Rattle.bx_live.proofs.Steps.{none_ran}
use Rattle.bx_live.proofs.HeldRuns.{held_second, then_held, closes_held, ends_held, breaks_held}
use Rattle.bx_live.proofs.holding.run_held.Goals as goal

pub loop-second-init : goal.loop-second-init
loop-second-init g c = record {
  moment = sym c.moment-second.ensures.value;
  within = search rules;
  so_far = (none_ran g.met.W.World.did_nothing c.args.world.now (Between c.args.exchange.now), tt);
}

pub returns-in_err-run_second : goal.returns-in_err-run_second
returns-in_err-run_second g c =
    let p = err_from_is_err_and c.from_residual.result c.from_residual.ensures.1 in
    let l = c.loop-second in
    let second = c.in_err-run_second.ensures.ran in
    rw p.1 (breaks_held g.met.W.World.did_more c.args.last c.args.exchange.now l.exchange c.run_second.new.exchange _ l.invariant.so_far second.run
    (held_second c.args.last l.exchange second.run.acts second.one (omega (arith, l.invariant.moment, c.loop-second-test.true)) (c.goes_on.ensures.on (search rules))))

pub returns-in-Ended : goal.returns-in-Ended
returns-in-Ended g c =
    let l = c.loop-second in
    let d1 = c.run_second.new.exchange in
    let second = (rw c.in-Ended.is at c.in_ok-run_second.ensures).ran in
    ends_held g.met.W.World.did_more c.args.last c.args.exchange.now l.exchange d1 c.close_day-in-Ended.result l.invariant.so_far second
    (held_second c.args.last l.exchange second.run.acts second.one (omega (arith, l.invariant.moment, c.loop-second-test.true)) (c.goes_on.ensures.on (search rules)))
    (c.close_day-in-Ended.ensures.at_ended d1)

pub loop-second-preserved : goal.loop-second-preserved
loop-second-preserved g c =
    let l = c.loop-second in
    let passed = rw c.in-Passed.is at c.in_ok-run_second.ensures in
    record {
      moment = omega (arith, l.invariant.moment, passed.moment (omega (arith, l.invariant.moment, c.loop-second-test.true)));
      within = omega (arith, c.loop-second-test.true);
      so_far = then_held g.met.W.World.did_more c.args.last c.args.exchange.now l.exchange (Between c.run_second.new.exchange) l.invariant.so_far passed.ran.run
          (held_second c.args.last l.exchange passed.ran.run.acts passed.ran.one (omega (arith, l.invariant.moment, c.loop-second-test.true)) (c.goes_on.ensures.on (search rules)));
    }

pub returns-then-not-goes_on : goal.returns-then-not-goes_on
returns-then-not-goes_on g c =
    let l = c.loop-second in
    let over = c.goes_on.ensures.over (search rules) in
    closes_held g.met.W.World.did_more c.args.last c.args.exchange.now l.exchange c.close_day.result l.invariant.so_far (c.close_day.ensures.at_last l.exchange)
    (record { reached = omega (arith, over.0); clear = inl over.1 })

pub returns : goal.returns
returns g c =
    let l = c.loop-second in
    closes_held g.met.W.World.did_more c.args.last c.args.exchange.now l.exchange c.close_day-2.result l.invariant.so_far (c.close_day-2.ensures.at_last l.exchange)
    (record { reached = omega (arith, l.invariant.moment, c.loop-second-test.false); clear = inr (omega (arith, l.invariant.moment, l.invariant.within, c.loop-second-test.false)) })
