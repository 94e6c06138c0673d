use Rattle.std.proofs.lemmas.Result.{err_from_is_err_and}
use Rattle.bx_far_commands.specs.LineDays.{IsFarLineCut}
use Rattle.bx_far_commands.specs.LineRefusals.{StopsFarLine}
use Rattle.bx_far_commands.proofs.Refusals.{kept_output}
use Rattle.bx_far_commands.proofs.ToldLines.{line_writes}
use Rattle.bx_far_commands.proofs.line_files.far_line_files.Goals as goal

pub returns-in_err-moment-clause-refused : goal.returns-in_err-moment-clause-refused
returns-in_err-moment-clause-refused g c =
    let p = err_from_is_err_and c.from_residual.result c.from_residual.ensures.1 in
    let H = g.row.H.Denot in
    let files = g.H.File.Write.contents in
    rw (p.1, p.2)
    (kept_output (StopsFarLine files c.args.request) (IsFarLineCut H files c.args.request) g.W.Write.contents c.args.output.now c.in_err-moment.field-0.0 (line_writes H files c.args.request) c.in_err-moment.ensures.stopped)

pub returns-clause-told : goal.returns-clause-told
returns-clause-told g c = record { moment = c.in_ok-moment.moment; day = c.in_ok-moment.ensures.ran; written = c.in_ok-write_ended.ensures.told }

pub returns-in_err-write_ended-clause-refused : goal.returns-in_err-write_ended-clause-refused
returns-in_err-write_ended-clause-refused g c =
    let p = err_from_is_err_and c.from_residual-in_err-write_ended.result c.from_residual-in_err-write_ended.ensures.1 in
    rw (p.1, p.2)
    (c.in_err-write_ended.ensures.refused, record { moment = c.in_ok-moment.moment; is_whole = c.in_ok-moment.is_whole; day = c.in_ok-moment.ensures.ran; written = c.in_err-write_ended.ensures.cut })
