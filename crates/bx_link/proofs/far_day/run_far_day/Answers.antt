use Rattle.std.proofs.Common.{◌+◌, true, false, refl, arith, inl, inr}
use Rattle.std.proofs.lemmas.Result.{err_from_is_err_and}
use Rattle.bx_frames.proofs.ReadAnswers.{gave, faulty}
use Rattle.bx_frames.specs.declared.fault.LinkFault.TheVariants.{Closed}
use Rattle.bx_link.proofs.Following.{over, broken}
use Rattle.bx_link.proofs.FarMoments.{runs_so}
use Rattle.bx_link.proofs.FarTurns.{no_turn_yet, far_stands, far_goes_on, far_failed, far_ended}
use Rattle.bx_link.proofs.far_day.run_far_day.Goals as goal

pub loop-turn-init : goal.loop-turn-init
loop-turn-init g c = record {
  going_on = c.new-session.ensures;
  within = omega arith;
  so_far = (no_turn_yet g.R.Read.remaining g.W.Write.contents c.args.reader.now c.args.writer.now (g.E.End.day c.args.far.now), g.met.E.End.keeps_nothing c.args.far.now);
}

pub loop-turn-preserved : goal.loop-turn-preserved
loop-turn-preserved g c =
    let l = c.loop-turn in
    let call = rw c.if-not-goes_on.false at c.in_ok-goes_on.ensures in
    let took = call.taken l.invariant.going_on in
    let so_far = l.invariant.so_far in
    record {
      going_on = call.over;
      within = omega (arith, c.loop-turn-test.true);
      so_far = (
        far_goes_on g.R.Read.remaining g.W.Write.contents l._turn c.args.reader.now l.reader c.args.writer.now l.writer (g.E.End.day c.args.far.now) (g.E.End.day l.far) so_far.0
            c.far_turn.new.reader c.far_turn.new.writer (g.E.End.day c.far_turn.new.far) took.0,
        g.met.E.End.keeps_on c.args.far.now l.far c.far_turn.new.far so_far.0.events took.0.events so_far.1 took.1,
      );
    }

pub returns-then-not-goes_on : goal.returns-then-not-goes_on
returns-then-not-goes_on g c =
    let l = c.loop-turn in
    let call = rw c.if-not-goes_on.true at c.in_ok-goes_on.ensures in
    let took = call.taken l.invariant.going_on in
    let so_far = l.invariant.so_far in (
      runs_so over (l._turn + 1) (gave false)
          (far_ended g.R.Read.remaining g.W.Write.contents l._turn c.args.reader.now l.reader c.args.writer.now l.writer (g.E.End.day c.args.far.now) (g.E.End.day l.far) so_far.0
          c.far_turn.new.reader c.far_turn.new.writer (g.E.End.day c.far_turn.new.far) took.0) refl,
      g.met.E.End.keeps_on c.args.far.now l.far c.far_turn.new.far so_far.0.events took.0.events so_far.1 took.1,
    )

pub returns-in_err-goes_on : goal.returns-in_err-goes_on
returns-in_err-goes_on g c =
    let l = c.loop-turn in
    let p = err_from_is_err_and c.from_residual.result c.from_residual.ensures.1 in
    let fault = c.in_err-goes_on.field-0.0 in
    let took = c.in_err-goes_on.ensures.taken l.invariant.going_on in
    let so_far = l.invariant.so_far in
    rw (p.1, p.2) (
      runs_so (broken fault) (l._turn + 1) (faulty fault)
          (far_failed g.R.Read.remaining g.W.Write.contents l._turn c.args.reader.now l.reader c.args.writer.now l.writer (g.E.End.day c.args.far.now) (g.E.End.day l.far) so_far.0
          c.far_turn.new.reader c.far_turn.new.writer (g.E.End.day c.far_turn.new.far) fault took.0) (inl refl),
      g.met.E.End.keeps_on c.args.far.now l.far c.far_turn.new.far so_far.0.events took.0.events so_far.1 took.1,
    )

pub returns : goal.returns
returns g c =
    let l = c.loop-turn in
    let so_far = l.invariant.so_far in (
      runs_so (broken Closed) l._turn (gave true)
          (far_stands g.R.Read.remaining g.W.Write.contents l._turn c.args.reader.now l.reader c.args.writer.now l.writer (g.E.End.day c.args.far.now) (g.E.End.day l.far) so_far.0)
          (inr ((refl, omega (arith, c.loop-turn-test.false, l.invariant.within)), refl)),
      so_far.1,
    )
