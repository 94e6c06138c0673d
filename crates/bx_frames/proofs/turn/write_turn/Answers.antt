use Rattle.std.proofs.Common.{◌++◌, refl}
use Rattle.std.specs.List.{flat_map}
use Rattle.std.proofs.lemmas.Result.{err_from_is_err_and}
use Rattle.bx_frames.specs.Frames.{turn_frame, frame_with}
use Rattle.bx_frames.proofs.WritingFrames.{sends_then, sends_failed}
use Rattle.bx_frames.proofs.turn.write_turn.Goals as goal

pub returns-in_err-write_messages : goal.returns-in_err-write_messages
returns-in_err-write_messages g c =
    let p = err_from_is_err_and c.from_residual.result c.from_residual.ensures.1 in
    let sent = flat_map frame_with c.args.sent.now in
    rw p.1 (sends_failed g.W.Write.contents c.args.writer.now c.write_messages.new.w c.in_err-write_messages.field-0.0 p.0 sent (turn_frame c.args.moment) (sent ++ turn_frame c.args.moment) refl c.in_err-write_messages.ensures)

pub returns : goal.returns
returns g c =
    sends_then g.W.Write.contents c.args.writer.now c.write_messages.new.w c.write_end_of_turn.new.w c.write_end_of_turn.result (flat_map frame_with c.args.sent.now) (turn_frame c.args.moment)
    c.in_ok-write_messages.ensures c.write_end_of_turn.ensures
