use Rattle.std.proofs.Common.{rules}
use Rattle.std.proofs.lemmas.Result.{err_from_is_err_and}
use Rattle.bx_devices.specs.Devices.{writing_of}
use Rattle.bx_rehearsal_commands.proofs.Refused.{unwhole}
use Rattle.bx_rehearsal_commands.proofs.telling.tell.Goals as goal

pub returns-in_err-kept-clause-cut : goal.returns-in_err-kept-clause-cut
returns-in_err-kept-clause-cut g c =
    let p = err_from_is_err_and c.from_residual.result c.from_residual.ensures.1 in
    rw (p.1, p.2)
    (unwhole g.F.Write.contents c.args.capture c.args.ended (writing_of g.W.Write.contents c.args.output.now c.write_outcomes-told.new.writer) c.record-recorded.result c.in_err-kept.field-0.0
    (record { written = search rules steps 1000000; records = search rules steps 1000000 }) c.in_err-kept.ensures.cut)
