use Rattle.std.proofs.lemmas.Result.{err_from_is_err_and}
use Rattle.bx_frames.specs.Frames.{frame_with}
use Rattle.bx_frames.proofs.WritingFrames.{text_written, text_failed}
use Rattle.bx_frames.proofs.frame_writing.write_messages.Goals as goal

pub returns-in_err-write_message : goal.returns-in_err-write_message
returns-in_err-write_message g c =
    let p = err_from_is_err_and c.from_residual.result c.from_residual.ensures.1 in
    rw p.1 (text_failed frame_with g.W.Write.contents c.args.messages.now c.loop-message.message-index c.message-item.result c.loop-message-test.true c.message-item.is
    c.args.w.now c.loop-message.w c.write_message.new.w c.in_err-write_message.field-0.0 p.0 c.loop-message.invariant c.in_err-write_message.ensures)

pub loop-message-preserved : goal.loop-message-preserved
loop-message-preserved g c =
    text_written frame_with g.W.Write.contents c.args.messages.now c.loop-message.message-index c.message-item.result c.loop-message-test.true c.message-item.is
    c.args.w.now c.loop-message.w c.write_message.new.w c.loop-message.invariant c.in_ok-write_message.ensures
