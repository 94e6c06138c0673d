use Rattle.std.proofs.Common.{◌+◌, [], ◌∷◌, drop, refl, sym, ap, true, false}
use Rattle.std.proofs.lemmas.Result.{err_from_is_err_and}
use Rattle.bx_frames.specs.Frames.{frame_with}
use Rattle.bx_live.specs.Acts.{Wrote}
use Rattle.bx_live.specs.Runs.{Owing, writing}
use Rattle.bx_live.specs.Inside.{texts_of}
use Rattle.bx_live.proofs.Steps.{none_done, one_done, then_done, at_place}
use Rattle.bx_live.proofs.Replies.{texts_from, texts_end}
use Rattle.bx_live.proofs.replying.write_all.Goals as goal

pub loop-reply-init : goal.loop-reply-init
loop-reply-init g c = λ d room. none_done g.met.W.World.did_nothing c.args.world.now (writing d room (texts_of c.args.replies.now))

pub loop-reply-preserved : goal.loop-reply-preserved
loop-reply-preserved g c = λ d room.
    let l = c.loop-reply in
    let reply = c.reply-item.result in
    let text = frame_with reply in
    let following = texts_of (drop (l.reply-index + 1) c.args.replies.now) in
    let here = texts_from c.args.replies.now l.reply-index reply c.loop-reply-test.true (sym c.reply-item.is) in
    then_done g.met.W.World.did_more
    (at_place (writing d room (texts_of (drop l.reply-index c.args.replies.now))) (Owing d room false (text ∷ following)) (ap (writing d room) here) (l.invariant d room))
    (one_done (Owing d room false (text ∷ following)) (Wrote text true) refl c.in_ok-write_message.ensures refl)

pub returns-in_err-write_message : goal.returns-in_err-write_message
returns-in_err-write_message g c = λ d room.
    let p = err_from_is_err_and c.from_residual.result c.from_residual.ensures.1 in
    let l = c.loop-reply in
    let reply = c.reply-item.result in
    let text = frame_with reply in
    let following = texts_of (drop (l.reply-index + 1) c.args.replies.now) in
    let here = texts_from c.args.replies.now l.reply-index reply c.loop-reply-test.true (sym c.reply-item.is) in
    rw p.1
    (then_done g.met.W.World.did_more
    (at_place (writing d room (texts_of (drop l.reply-index c.args.replies.now))) (Owing d room false (text ∷ following)) (ap (writing d room) here) (l.invariant d room))
    (one_done (Owing d room false (text ∷ following)) (Wrote text false) refl c.in_err-write_message.ensures refl))

pub returns : goal.returns
returns g c = λ d room.
    let l = c.loop-reply in
    at_place (writing d room (texts_of (drop l.reply-index c.args.replies.now))) (writing d room []) (ap (writing d room) (texts_end c.args.replies.now l.reply-index c.loop-reply-test.false)) (l.invariant d room)
