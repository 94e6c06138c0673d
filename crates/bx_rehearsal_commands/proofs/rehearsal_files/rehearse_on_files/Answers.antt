use Rattle.std.proofs.lemmas.Result.{err_from_is_err_and}
use Rattle.bx_journal_files.proofs.Results.{on_ok, if_err}
use Rattle.bx_rehearsal_commands.proofs.ToldRehearsals.{rehearsal_told, rehearsal_refused, rehearsal_stopped}
use Rattle.bx_rehearsal_commands.proofs.rehearsal_files.rehearse_on_files.Goals as goal

pub returns-clause-done : goal.returns-clause-done
returns-clause-done g c =
    on_ok c.tell.result (rehearsal_told g.H.File.Write.contents c.args.request g.W.Write.contents c.args.output.now c.tell.new.output c.in_ok-ended.ended c.in_ok-ended.ensures.ran c.in_ok-ended.ensures.records) c.tell.ensures.told

pub returns-clause-refused : goal.returns-clause-refused
returns-clause-refused g c =
    if_err c.tell.result _ _ (rehearsal_refused g.H.File.Write.contents c.args.request g.W.Write.contents c.args.output.now c.tell.new.output c.in_ok-ended.ended c.in_ok-ended.ensures.ran c.in_ok-ended.ensures.records) c.tell.ensures.cut

pub returns-in_err-ended-clause-refused : goal.returns-in_err-ended-clause-refused
returns-in_err-ended-clause-refused g c =
    let p = err_from_is_err_and c.from_residual.result c.from_residual.ensures.1 in
    rw (p.1, p.2)
    (rehearsal_stopped g.H.File.Write.contents c.args.request g.W.Write.contents c.args.output.now c.in_err-ended.field-0.0 c.in_err-ended.ensures.stopped)
