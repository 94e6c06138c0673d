use Rattle.std.proofs.Common.{◌<◌, rules, sym, inl, inr, arith}
use Rattle.std.proofs.lemmas.Result.{err_from_is_err_and}
use Rattle.bx_live.specs.Runs.{Between, Over}
use Rattle.bx_market.specs.Stands.{Within}
use Rattle.bx_market.proofs.Steps.{then_asked}
use Rattle.bx_market.proofs.Seconds.{none_held, then_held, asked_held, one_second, closes, ends, breaks}
use Rattle.bx_market.proofs.running.run_market.Goals as goal

pub loop-second-init : goal.loop-second-init
loop-second-init g c = record {
  moment = sym c.moment-second.ensures.value;
  within = search rules;
  so_far = none_held c.args.channels g.met.W.Market.dealt_by g.met.W.Market.dealt_more c.args.last g.met.W.World.did_nothing c.args.world.now (Within (Between c.args.exchange.now));
}

pub returns-in_err-leave_lost : goal.returns-in_err-leave_lost
returns-in_err-leave_lost g c =
    let p = err_from_is_err_and c.from_residual.result c.from_residual.ensures.1 in
    let bad = c.in_err-leave_lost.ensures.left in
    breaks c.args.channels g.met.W.Market.dealt_by g.met.W.Market.dealt_more c.args.last c.args.exchange.now c.leave_lost.new.exchange bad.0 c.from_residual.result _ p.1
    (then_held c.args.channels g.met.W.Market.dealt_by g.met.W.Market.dealt_more c.args.last c.loop-second.invariant.so_far (asked_held c.args.channels g.met.W.Market.dealt_by g.met.W.Market.dealt_more c.args.last bad.1))

pub returns-in_err-ask_all : goal.returns-in_err-ask_all
returns-in_err-ask_all g c =
    let p = err_from_is_err_and c.from_residual-in_err-ask_all.result c.from_residual-in_err-ask_all.ensures.1 in
    let bad = c.in_err-ask_all.ensures.sold in
    breaks c.args.channels g.met.W.Market.dealt_by g.met.W.Market.dealt_more c.args.last c.args.exchange.now c.ask_all.new.exchange bad.0 c.from_residual-in_err-ask_all.result _ p.1
    (then_held c.args.channels g.met.W.Market.dealt_by g.met.W.Market.dealt_more c.args.last c.loop-second.invariant.so_far (asked_held c.args.channels g.met.W.Market.dealt_by g.met.W.Market.dealt_more c.args.last (then_asked g.met.W.Market.dealt_more c.in_ok-leave_lost.ensures.left bad.1)))

pub returns-in_err-run_second : goal.returns-in_err-run_second
returns-in_err-run_second g c =
    let p = err_from_is_err_and c.from_residual-in_err-run_second.result c.from_residual-in_err-run_second.ensures.1 in
    let l = c.loop-second in
    let asked = then_held c.args.channels g.met.W.Market.dealt_by g.met.W.Market.dealt_more c.args.last l.invariant.so_far (asked_held c.args.channels g.met.W.Market.dealt_by g.met.W.Market.dealt_more c.args.last (then_asked g.met.W.Market.dealt_more c.in_ok-leave_lost.ensures.left c.in_ok-ask_all.ensures.sold)) in
    let second = c.in_err-run_second.ensures.ran in
    let early : c.ask_all.new.exchange.moment < 300000 = omega (arith, l.invariant.moment, c.in_ok-leave_lost.ensures.moment, c.in_ok-ask_all.ensures.moment, c.loop-second-test.true) in
    breaks c.args.channels g.met.W.Market.dealt_by g.met.W.Market.dealt_more c.args.last c.args.exchange.now c.run_second.new.exchange c.run_second.new.exchange c.from_residual-in_err-run_second.result _ p.1
    (then_held c.args.channels g.met.W.Market.dealt_by g.met.W.Market.dealt_more c.args.last asked
    (one_second c.args.channels g.met.W.Market.dealt_by g.met.W.Market.dealt_more c.args.last c.ask_all.new.exchange (Over c.run_second.new.exchange) second.run second.one early (c.goes_on.ensures.on (search rules))))

pub returns-in-Ended : goal.returns-in-Ended
returns-in-Ended g c =
    let l = c.loop-second in
    let asked = then_held c.args.channels g.met.W.Market.dealt_by g.met.W.Market.dealt_more c.args.last l.invariant.so_far (asked_held c.args.channels g.met.W.Market.dealt_by g.met.W.Market.dealt_more c.args.last (then_asked g.met.W.Market.dealt_more c.in_ok-leave_lost.ensures.left c.in_ok-ask_all.ensures.sold)) in
    let second = (rw c.in-Ended.is at c.in_ok-run_second.ensures).ran in
    let d1 = c.run_second.new.exchange in
    ends c.args.channels g.met.W.Market.dealt_by g.met.W.Market.dealt_more c.args.last c.args.exchange.now c.ask_all.new.exchange d1 c.close_day-in-Ended.result asked second (omega (arith, l.invariant.moment, c.in_ok-leave_lost.ensures.moment, c.in_ok-ask_all.ensures.moment, c.loop-second-test.true))
    (c.goes_on.ensures.on (search rules)) (c.close_day-in-Ended.ensures.at_ended d1)

pub loop-second-preserved : goal.loop-second-preserved
loop-second-preserved g c =
    let l = c.loop-second in
    let asked = then_held c.args.channels g.met.W.Market.dealt_by g.met.W.Market.dealt_more c.args.last l.invariant.so_far (asked_held c.args.channels g.met.W.Market.dealt_by g.met.W.Market.dealt_more c.args.last (then_asked g.met.W.Market.dealt_more c.in_ok-leave_lost.ensures.left c.in_ok-ask_all.ensures.sold)) in
    let passed = rw c.in-Passed.is at c.in_ok-run_second.ensures in
    let early : c.ask_all.new.exchange.moment < 300000 = omega (arith, l.invariant.moment, c.in_ok-leave_lost.ensures.moment, c.in_ok-ask_all.ensures.moment, c.loop-second-test.true) in
    record {
      moment = omega (arith, l.invariant.moment, c.in_ok-leave_lost.ensures.moment, c.in_ok-ask_all.ensures.moment, passed.moment early);
      within = omega (arith, c.loop-second-test.true);
      so_far = then_held c.args.channels g.met.W.Market.dealt_by g.met.W.Market.dealt_more c.args.last asked
          (one_second c.args.channels g.met.W.Market.dealt_by g.met.W.Market.dealt_more c.args.last c.ask_all.new.exchange (Between c.run_second.new.exchange) passed.ran.run passed.ran.one early (c.goes_on.ensures.on (search rules)));
    }

pub returns-then-not-goes_on : goal.returns-then-not-goes_on
returns-then-not-goes_on g c =
    let l = c.loop-second in
    let d1 = c.ask_all.new.exchange in
    let asked = then_held c.args.channels g.met.W.Market.dealt_by g.met.W.Market.dealt_more c.args.last l.invariant.so_far (asked_held c.args.channels g.met.W.Market.dealt_by g.met.W.Market.dealt_more c.args.last (then_asked g.met.W.Market.dealt_more c.in_ok-leave_lost.ensures.left c.in_ok-ask_all.ensures.sold)) in
    let over = c.goes_on.ensures.over (search rules) in
    closes c.args.channels g.met.W.Market.dealt_by g.met.W.Market.dealt_more c.args.last c.args.exchange.now d1 (Between d1) c.close_day.result asked (c.close_day.ensures.at_last d1) (inr (record { reached = omega (arith, over.0); clear = inl over.1 }))

pub returns : goal.returns
returns g c =
    let l = c.loop-second in
    closes c.args.channels g.met.W.Market.dealt_by g.met.W.Market.dealt_more c.args.last c.args.exchange.now l.exchange (Between l.exchange) c.close_day-2.result l.invariant.so_far (c.close_day-2.ensures.at_last l.exchange)
    (inr (record { reached = omega (arith, l.invariant.moment, c.loop-second-test.false); clear = inr (omega (arith, l.invariant.moment, l.invariant.within, c.loop-second-test.false)) }))
