use Rattle.std.proofs.Common.{arith, sym, ◌∙◌}
use Rattle.bx_line_world.proofs.Stepping.{none_polled, polled_more, polled_out}
use Rattle.bx_line_world.proofs.line.Line.poll.Goals as goal

pub loop-frames-init : goal.loop-frames-init
loop-frames-init g c = record { few = omega arith; so_far = none_polled c.args.self.now }

pub returns-then-not-wait : goal.returns-then-not-wait
returns-then-not-wait g c =
    let w = c.wait.ensures in
    polled_out c.loop-frames.invariant.so_far (record { goes_on = sym c.has_news.ensures ∙ c.if-not-has_news.true; is_wait = w.1; waited = w.2 }) (sym w.3 ∙ c.if-not-wait.true)

pub loop-frames-preserved : goal.loop-frames-preserved
loop-frames-preserved g c =
    let w = c.wait.ensures in
    record {
      few = omega (arith, c.loop-frames-test.true);
      so_far = polled_more c.loop-frames.invariant.so_far (record { goes_on = sym c.has_news.ensures ∙ c.if-not-has_news.true; is_wait = w.1; waited = w.2 });
    }
