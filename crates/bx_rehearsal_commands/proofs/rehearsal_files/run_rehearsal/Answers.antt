use Rattle.std.proofs.Common.{inl, inr}
use Rattle.std.proofs.lemmas.Result.{err_from_is_err_and}
use Rattle.bx_journal_files.proofs.Results.{if_ok, if_err}
use Rattle.bx_rehearsal_commands.proofs.ToldRehearsals.{lost_rehearsal}
use Rattle.bx_rehearsal_commands.proofs.rehearsal_files.run_rehearsal.Goals as goal

pub returns-clause-ran : goal.returns-clause-ran
returns-clause-ran g c =
    let run = c.in_ok-run in
    let ran = run.ensures.ran c.in_ok-seen.ensures.first c.in_ok-opening.ensures.opened in
    if_ok c.ended.result _ _ (λ ended e. record { rehearsed = run.run'.rehearsed; ran = ran; unlost = e.unlost; day_is = e.day_is; whole_is = e.whole_is }) c.ended.ensures.ended

pub returns-clause-stopped :
    goal.returns-clause-stopped
returns-clause-stopped g c =
    let run = c.in_ok-run in
    let ran = run.ensures.ran c.in_ok-seen.ensures.first c.in_ok-opening.ensures.opened in
    if_err c.ended.result _ _ (lost_rehearsal g.H.File.Write.contents c.args.request run.run'.rehearsed ran) c.ended.ensures.lost

pub returns-in_err-seen-clause-stopped : goal.returns-in_err-seen-clause-stopped
returns-in_err-seen-clause-stopped g c =
    let p = err_from_is_err_and c.from_residual.result c.from_residual.ensures.1 in
    rw (p.1, p.2) (inl c.in_err-seen.ensures.refused)

pub returns-in_err-opening-clause-stopped : goal.returns-in_err-opening-clause-stopped
returns-in_err-opening-clause-stopped g c =
    let p = err_from_is_err_and c.from_residual-in_err-opening.result c.from_residual-in_err-opening.ensures.1 in
    rw (p.1, p.2) (inr (inl ((_, c.in_ok-seen.ensures.first), (_, c.in_ok-seen.ensures.clock), c.in_err-opening.ensures.refused)))

pub returns-in_err-run-clause-stopped : goal.returns-in_err-run-clause-stopped
returns-in_err-run-clause-stopped g c =
    let p = err_from_is_err_and c.from_residual-in_err-run.result c.from_residual-in_err-run.ensures.1 in
    rw (p.1, p.2) (inr (inr (inl ((_, c.in_ok-seen.ensures.first), (_, c.in_ok-seen.ensures.clock), (_, _, _, c.in_ok-opening.ensures.opened), c.in_err-run.ensures.stopped c.in_ok-seen.ensures.clock))))
