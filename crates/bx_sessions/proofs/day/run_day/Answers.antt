use Rattle.std.proofs.Common.{inl, inr}
use Rattle.std.proofs.lemmas.Result.{err_from_is_err_and}
use Rattle.bx_sessions.proofs.ExchangeTurns.{day_written, day_not_written, no_end}
use Rattle.bx_sessions.proofs.day.run_day.Goals as goal

pub returns-in_err-run_turns : goal.returns-in_err-run_turns
returns-in_err-run_turns g c =
    let p = err_from_is_err_and c.from_residual.result c.from_residual.ensures.1 in
    let talked = rw (c.min-count.ensures, c.reached.ensures.value) at c.in_err-run_turns.ensures in
    rw (p.1, p.2) (inr (no_end c.in_err-run_turns.field-0.0, talked.0), talked.1)

pub returns-in-Ok : goal.returns-in-Ok
returns-in-Ok g c =
    let talked = rw (c.min-count.ensures, c.reached.ensures.value) at c.in_ok-run_turns.ensures in
    (inl (record { last = c.run_turns.new.writer; talks = talked.0; ends = day_written g.W.Write.contents c.run_turns.new.writer c.write_end_of_day.new.w c.in-Ok.ensures }), talked.1)

pub returns-in-Err : goal.returns-in-Err
returns-in-Err g c =
    let talked = rw (c.min-count.ensures, c.reached.ensures.value) at c.in_ok-run_turns.ensures in
    (inl (record { last = c.run_turns.new.writer; talks = talked.0; ends = day_not_written g.W.Write.contents c.run_turns.new.writer c.write_end_of_day.new.w c.in-Err.field-0 c.in-Err.ensures }), talked.1)
