use Rattle.std.proofs.Common.{sym, ◌∙◌, arith, true≢false}
use Rattle.bx_live.proofs.Days.{ended_inside}
use Rattle.bx_live.specs.Acts.{EndedDay}
use Rattle.bx_link.specs.Runs.{Between, Ending, Done}
use Rattle.bx_link.proofs.Steps.{none_done, one_done, then_done}
use Rattle.bx_link.proofs.Days.{run_day}
use Rattle.bx_link.proofs.running.run_far_live.Goals as goal

pub returns-in-Ended-clause-ran : goal.returns-in-Ended-clause-ran
returns-in-Ended-clause-ran g c =
    let d = c.args.far.now in
    let d1 = c.run_second.new.far in
    let said = c.in-Ended.ensures.said in
    let so_far = c.loop-second.invariant.so_far in
    let close = one_done (Ending d1) EndedDay c.end_day.ensures tt in
    let ran = then_done g.met.W.World.did_more so_far (then_done g.met.W.World.did_more said.0 close) in
    let inside = ended_inside so_far.acts said.0.acts close.acts said.1 in
    (ran, run_day (Between d) (Done d1) ran.acts ran.goes, λ none. absurd (true≢false (sym inside ∙ none)))

pub returns-clause-ran : goal.returns-clause-ran
returns-clause-ran g c =
    let l = c.loop-second in
    let d = c.args.far.now in
    let ran = then_done g.met.W.World.did_more l.invariant.so_far (one_done (Between l.far) EndedDay c.end_day-2.ensures tt) in (
      ran,
      run_day (Between d) (Done l.far) ran.acts ran.goes,
      λ none. omega (arith, l.invariant.moment, l.invariant.reached, c.min-end.ensures, c.loop-second-test.false, l.auto._second, c.moment-second.ensures.value),
    )

pub returns-in-Ended-clause-whole : goal.returns-in-Ended-clause-whole
returns-in-Ended-clause-whole g c =
    let l = c.loop-second in
    omega (arith, l.invariant.moment, l.invariant.reached, c.min-end.ensures, c.in-Ended.ensures.moment)

pub returns-clause-whole : goal.returns-clause-whole
returns-clause-whole g c =
    let l = c.loop-second in
    omega (arith, l.invariant.moment, l.invariant.reached, c.min-end.ensures)

pub loop-second-init : goal.loop-second-init
loop-second-init g c =
    let so_far = none_done g.met.W.World.did_nothing c.args.world.now (Between c.args.far.now) in
    record { moment = sym c.moment-second.ensures.value; within = omega (arith, c.min-end.ensures); reached = omega (arith, c.moment-second.ensures.value); so_far = so_far }

pub loop-second-preserved : goal.loop-second-preserved
loop-second-preserved g c =
    let l = c.loop-second in
    let passed = c.in-Passed.ensures in
    record {
      moment = omega (arith, l.invariant.moment, passed.moment (omega (arith, l.invariant.moment, l.invariant.within, c.loop-second-test.true)));
      within = l.invariant.within;
      reached = omega (arith, c.loop-second-test.true);
      so_far = then_done g.met.W.World.did_more l.invariant.so_far passed.ran;
    }
