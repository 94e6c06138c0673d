use Rattle.std.proofs.lemmas.Result.{err_from_is_err_and}
use Rattle.bx_far_commands.specs.Days.{IsFarCut}
use Rattle.bx_far_commands.specs.FarRefusals.{StopsFarEnd}
use Rattle.bx_far_commands.proofs.Refusals.{kept_output, far_writes}
use Rattle.bx_far_commands.proofs.far_files.far_files.Goals as goal

pub returns-in_err-moment-clause-refused : goal.returns-in_err-moment-clause-refused
returns-in_err-moment-clause-refused g c =
    let p = err_from_is_err_and c.from_residual.result c.from_residual.ensures.1 in
    rw (p.1, p.2)
    (kept_output (StopsFarEnd g.H.File.Write.contents c.args.request) IsFarCut g.W.Write.contents c.args.output.now c.in_err-moment.field-0.0 (far_writes g.H.File.Write.contents c.args.request) c.in_err-moment.ensures.stopped)

pub returns-clause-told : goal.returns-clause-told
returns-clause-told g c = (record { moment = c.in_ok-moment.moment; run = c.in_ok-moment.ensures.ran.0; written = c.in_ok-write_ended.ensures.told }, c.in_ok-moment.ensures.ran.1)
