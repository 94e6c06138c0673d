use Rattle.std.proofs.Common.{inr}
use Rattle.std.proofs.lemmas.Result.{err_from_is_err_and}
use Rattle.bx_request.specs.declared.request.Peer.TheVariants.{At}
use Rattle.bx_rehearsal_commands.proofs.RehearsedWith.{unready, with_peer}
use Rattle.bx_rehearsal_commands.proofs.rehearsal_files.rehearse_at.Goals as goal

pub returns-clause-ran : goal.returns-clause-ran
returns-clause-ran g c = λ begins opens.
    let ready = c.in_ok-ready.ready in
    with_peer g.H.File.Write.contents c.args.request c.args.opening c.args.seen.first ready.opened ready.view.file ready.view.first c.args.seen.clock ready.records c.in_ok-ready.ensures.readied begins opens c.in_ok-rehearsed.rehearsed
    (At c.args.place) c.in_ok-rehearsed.ensures.ran

pub returns-in_err-ready-clause-stopped : goal.returns-in_err-ready-clause-stopped
returns-in_err-ready-clause-stopped g c =
    let p = err_from_is_err_and c.from_residual.result c.from_residual.ensures.1 in
    rw (p.1, p.2) (λ clock. unready g.H.File.Write.contents (At c.args.place) c.args.request c.in_err-ready.field-0.0 c.in_err-ready.ensures.refused)

pub returns-in_err-rehearsed-clause-stopped : goal.returns-in_err-rehearsed-clause-stopped
returns-in_err-rehearsed-clause-stopped g c =
    let p = err_from_is_err_and c.from_residual-in_err-rehearsed.result c.from_residual-in_err-rehearsed.ensures.1 in
    rw (p.1, p.2) (λ clock. inr (inr (inr ((_, c.in_ok-ready.ensures.readied.file_opens), (_, (_, clock, c.in_ok-ready.ensures.readied.records_open)), c.in_err-rehearsed.ensures.stopped))))

pub returns-clause-records : goal.returns-clause-records
returns-clause-records g c = c.in_ok-ready.ensures.readied.records_open
