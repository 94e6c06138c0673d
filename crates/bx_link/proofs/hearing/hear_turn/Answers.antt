use Rattle.std.proofs.Common.{◌-◌, ◌∙◌, refl, sym, arith, Ok, Err}
use Rattle.std.proofs.lemmas.Result.{err_from_is_err_and}
use Rattle.bx_frames.specs.declared.frame.Frame.TheVariants as frames
use Rattle.bx_frames.specs.declared.fault.LinkFault.TheVariants.{WrongMoment}
use Rattle.bx_live.specs.declared.world.Loss.TheVariants as losses
use Rattle.bx_live.specs.Acts.{Read}
use Rattle.bx_link.specs.Runs.{Hearing, Between, Losing, far_run_heard}
use Rattle.bx_link.proofs.Steps.{none_done, one_done, then_done, at_place, ended_right, ended_wrong}
use Rattle.bx_link.proofs.Moments.{hearing_stays}
use Rattle.bx_link.proofs.hearing.hear_turn.Goals as goal

pub loop-octets-init : goal.loop-octets-init
loop-octets-init g c = record {
  within = omega arith;
  limit = c.moment-moment.ensures.limit;
  reached = sym c.moment-moment.ensures.value;
  begun = c.moment-moment.ensures.value;
  so_far = none_done g.met.W.World.did_nothing c.args.world.now (Hearing c.args.far.now 64);
}

pub loop-octets-preserved : goal.loop-octets-preserved
loop-octets-preserved g c =
    let l = c.loop-octets in
    let frame = rw c.in-Message.is at c.in_ok-octets.ensures in
    let message = c.in-Message.octets in
    let answered = c.in_ok-answer-in-Message.ensures in
    record {
      within = omega (arith, l.invariant.within);
      limit = l.invariant.limit;
      reached = hearing_stays l.far c.answer.new.far message.items answered.day ∙ l.invariant.reached;
      begun = l.invariant.begun;
      so_far = then_done g.met.W.World.did_more l.invariant.so_far
          (then_done g.met.W.World.did_more (one_done (Hearing l.far l.room) (Read l.room (Ok (frames.Message message))) frame.read refl) (answered.ran (l.room - 1)));
    }

pub returns-in_err-octets-clause-ran : goal.returns-in_err-octets-clause-ran
returns-in_err-octets-clause-ran g c =
    let l = c.loop-octets in
    let p = err_from_is_err_and c.from_residual.result c.from_residual.ensures.1 in
    rw (p.1, p.2)
    (then_done g.met.W.World.did_more l.invariant.so_far (one_done (Hearing l.far l.room) (Read l.room (Err c.in_err-octets.field-0.0)) c.in_err-octets.ensures.read refl))

pub returns-in_err-answer-in-Message-clause-ran : goal.returns-in_err-answer-in-Message-clause-ran
returns-in_err-answer-in-Message-clause-ran g c =
    let l = c.loop-octets in
    let r = c.from_residual-in_err-answer-in-Message in
    let p = err_from_is_err_and r.result r.ensures.1 in
    let frame = rw c.in-Message.is at c.in_ok-octets.ensures in
    rw (p.1, p.2)
    (then_done g.met.W.World.did_more l.invariant.so_far
    (then_done g.met.W.World.did_more (one_done (Hearing l.far l.room) (Read l.room (Ok (frames.Message c.in-Message.octets))) frame.read refl) (c.in_err-answer-in-Message.ensures.ran (l.room - 1))))

pub returns-in_err-answer-in-Message-clause-moment : goal.returns-in_err-answer-in-Message-clause-moment
returns-in_err-answer-in-Message-clause-moment g c =
    let l = c.loop-octets in
    hearing_stays l.far c.answer.new.far c.in-Message.octets.items c.in_err-answer-in-Message.ensures.day ∙ (l.invariant.reached ∙ l.invariant.begun)

pub returns-then-said-moment-clause-ran : goal.returns-then-said-moment-clause-ran
returns-then-said-moment-clause-ran g c =
    let l = c.loop-octets in
    let said = c.in-EndOfTurn.said in
    let frame = rw c.in-EndOfTurn.is at c.in_ok-octets.ensures in
    then_done g.met.W.World.did_more l.invariant.so_far
    (at_place (far_run_heard l.far l.room (Ok (frames.EndOfTurn said))) (Between l.far) (ended_right l.far l.room said (c.if-said-moment.true ∙ sym l.invariant.reached))
    (one_done (Hearing l.far l.room) (Read l.room (Ok (frames.EndOfTurn said))) frame.read refl))

pub returns-else-said-moment-clause-ran : goal.returns-else-said-moment-clause-ran
returns-else-said-moment-clause-ran g c =
    let l = c.loop-octets in
    let said = c.in-EndOfTurn.said in
    let frame = rw c.in-EndOfTurn.is at c.in_ok-octets.ensures in
    then_done g.met.W.World.did_more l.invariant.so_far
    (at_place (far_run_heard l.far l.room (Ok (frames.EndOfTurn said))) (Losing l.far (losses.Fault WrongMoment)) (ended_wrong l.far l.room said (λ e. c.if-said-moment.false (e ∙ l.invariant.reached)))
    (one_done (Hearing l.far l.room) (Read l.room (Ok (frames.EndOfTurn said))) frame.read refl))
