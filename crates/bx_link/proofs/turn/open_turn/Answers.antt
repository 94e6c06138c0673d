use Rattle.std.proofs.Common.{◌++◌, true, false}
use Rattle.bx_events.specs.Events.{Tick}
use Rattle.bx_far.specs.Course.{far_line_next, far_line_text}
use Rattle.bx_frames.specs.Frames.{frames_of, turn_frame}
use Rattle.bx_link.specs.Runs.{Owing}
use Rattle.bx_link.proofs.Steps.{from_place, owing_same, turn_written}
use Rattle.bx_link.proofs.turn.open_turn.Goals as goal

pub returns-in-Ok-clause-ran : goal.returns-in-Ok-clause-ran
returns-in-Ok-clause-ran g c =
    let d = c.args.far.now in
    let d1 = c.next_second-sent.new.self in
    let text = frames_of c.next_second-sent.result.items ++ turn_frame d1.moment in
    from_place (Owing d1 64 text) (Owing (far_line_next d Tick) 64 (far_line_text d Tick)) (owing_same d1 (far_line_next d Tick) 64 text (far_line_text d Tick) c.next_second-sent.ensures.day c.next_second-sent.ensures.text)
    (turn_written d1 64 c.as_slice.result.now c.next_second-sent.result.items c.moment.result d1.moment true c.as_slice.ensures.value c.moment.ensures.value c.in-Ok.ensures)

pub returns-in-Err-clause-ran : goal.returns-in-Err-clause-ran
returns-in-Err-clause-ran g c =
    let d = c.args.far.now in
    let d1 = c.next_second-sent.new.self in
    let text = frames_of c.next_second-sent.result.items ++ turn_frame d1.moment in
    from_place (Owing d1 64 text) (Owing (far_line_next d Tick) 64 (far_line_text d Tick)) (owing_same d1 (far_line_next d Tick) 64 text (far_line_text d Tick) c.next_second-sent.ensures.day c.next_second-sent.ensures.text)
    (turn_written d1 64 c.as_slice.result.now c.next_second-sent.result.items c.moment.result d1.moment false c.as_slice.ensures.value c.moment.ensures.value c.in-Err.ensures)
