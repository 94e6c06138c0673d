use Rattle.std.proofs.Common.{◌∙◌, refl, arith, Ok, Err}
use Rattle.std.proofs.lemmas.Result.{err_from_is_err_and}
use Rattle.bx_frames.specs.declared.frame.Frame.TheVariants as frames
use Rattle.bx_frames.specs.declared.fault.LinkFault.TheVariants.{WrongMoment}
use Rattle.bx_live.specs.declared.world.Loss.TheVariants as losses
use Rattle.bx_live.specs.Acts.{Read}
use Rattle.bx_live.specs.Runs.{Hearing, Between, Losing, heard}
use Rattle.bx_live.proofs.Steps.{none_done, one_done, then_done, at_place, ended_right, ended_wrong}
use Rattle.bx_live.proofs.hearing.hear_turn.Goals as goal

pub loop-octets-init : goal.loop-octets-init
loop-octets-init g c = record { within = omega arith; moment = refl; so_far = none_done g.met.W.World.did_nothing c.args.world.now (Hearing c.args.exchange.now 64) }

pub loop-octets-preserved : goal.loop-octets-preserved
loop-octets-preserved g c =
    let l = c.loop-octets in
    let frame = rw c.in-Ok-Message.field-0-is at c.in-Ok-Message.ensures in
    record {
      within = omega (arith, l.invariant.within, c.in_ok-room-in-Ok-Message.ensures.fewer);
      moment = c.in_ok-room-in-Ok-Message.ensures.moment ∙ l.invariant.moment;
      so_far = then_done g.met.W.World.did_more l.invariant.so_far
          (then_done g.met.W.World.did_more
          (one_done (Hearing l.exchange l.room) (Read l.room (Ok (frames.Message c.in-Ok-Message.octets))) refl frame.read refl)
          (c.in_ok-room-in-Ok-Message.ensures.ran));
    }

pub returns-in_err-room-in-Ok-Message-clause-ran : goal.returns-in_err-room-in-Ok-Message-clause-ran
returns-in_err-room-in-Ok-Message-clause-ran g c =
    let l = c.loop-octets in
    let p = err_from_is_err_and c.from_residual.result c.from_residual.ensures.1 in
    let frame = rw c.in-Ok-Message.field-0-is at c.in-Ok-Message.ensures in
    rw (p.1, p.2)
    (then_done g.met.W.World.did_more l.invariant.so_far
    (then_done g.met.W.World.did_more
    (one_done (Hearing l.exchange l.room) (Read l.room (Ok (frames.Message c.in-Ok-Message.octets))) refl frame.read refl)
    (c.in_err-room-in-Ok-Message.ensures.ran)))

pub returns-then-said-moment-clause-ran : goal.returns-then-said-moment-clause-ran
returns-then-said-moment-clause-ran g c =
    let l = c.loop-octets in
    let frame = rw c.in-Ok-EndOfTurn.field-0-is at c.in-Ok-EndOfTurn.ensures in
    let said = c.in-Ok-EndOfTurn.said in
    then_done g.met.W.World.did_more l.invariant.so_far
    (at_place (heard l.exchange l.room (Ok (frames.EndOfTurn said))) (Between l.exchange) (ended_right l.exchange l.room said (rw c.moment.ensures.value at c.if-said-moment.true))
    (one_done (Hearing l.exchange l.room) (Read l.room (Ok (frames.EndOfTurn said))) refl frame.read refl))

pub returns-else-said-moment-clause-ran : goal.returns-else-said-moment-clause-ran
returns-else-said-moment-clause-ran g c =
    let l = c.loop-octets in
    let frame = rw c.in-Ok-EndOfTurn.field-0-is at c.in-Ok-EndOfTurn.ensures in
    let said = c.in-Ok-EndOfTurn.said in
    then_done g.met.W.World.did_more l.invariant.so_far
    (at_place (heard l.exchange l.room (Ok (frames.EndOfTurn said))) (Losing l.exchange (losses.Fault WrongMoment)) (ended_wrong l.exchange l.room said (rw c.moment.ensures.value at c.if-said-moment.false))
    (one_done (Hearing l.exchange l.room) (Read l.room (Ok (frames.EndOfTurn said))) refl frame.read refl))

pub returns-in-Err-clause-ran : goal.returns-in-Err-clause-ran
returns-in-Err-clause-ran g c =
    let l = c.loop-octets in
    then_done g.met.W.World.did_more l.invariant.so_far
    (one_done (Hearing l.exchange l.room) (Read l.room (Err c.in-Err.fault)) refl c.in-Err.ensures.read refl)
