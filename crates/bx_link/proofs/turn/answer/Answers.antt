use Rattle.std.proofs.Common.{Some, None, refl, true, false}
use Rattle.bx_frames.specs.Frames.{frame_with}
use Rattle.bx_live.specs.Acts.{Wrote}
use Rattle.bx_link.specs.Runs.{Owing, Hearing}
use Rattle.bx_link.proofs.Steps.{none_done, one_done, answered_after}
use Rattle.bx_link.proofs.turn.answer.Goals as goal

pub returns-in-Ok-clause-ran : goal.returns-in-Ok-clause-ran
returns-in-Ok-clause-ran g c room =
    let text = frame_with c.in-Some.reply in
    let d1 = c.receive_live.new.self in
    answered_after c.args.far.now d1 c.args.message.now.items c.as_slice.result.now room (Some c.in-Some.reply) c.as_slice.ensures.value c.in-Some.ensures.day c.in-Some.ensures.reply
    (one_done (Owing d1 room text) (Wrote text true) c.in-Ok.ensures refl)

pub returns-in-Err-clause-ran : goal.returns-in-Err-clause-ran
returns-in-Err-clause-ran g c room =
    let text = frame_with c.in-Some.reply in
    let d1 = c.receive_live.new.self in
    answered_after c.args.far.now d1 c.args.message.now.items c.as_slice.result.now room (Some c.in-Some.reply) c.as_slice.ensures.value c.in-Some.ensures.day c.in-Some.ensures.reply
    (one_done (Owing d1 room text) (Wrote text false) c.in-Err.ensures refl)

pub returns-in-None-clause-ran : goal.returns-in-None-clause-ran
returns-in-None-clause-ran g c room =
    let d1 = c.receive_live.new.self in
    answered_after c.args.far.now d1 c.args.message.now.items c.as_slice.result.now room None c.as_slice.ensures.value c.in-None.ensures.day c.in-None.ensures.reply
    (none_done g.met.W.World.did_nothing c.args.world.now (Hearing d1 room))
