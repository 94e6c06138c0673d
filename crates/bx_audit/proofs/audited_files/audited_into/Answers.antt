use Rattle.std.proofs.Common.{refl}
use Rattle.std.proofs.lemmas.Result.{err_from_is_err_and}
use Rattle.bx_devices.specs.Watching.{device_of}
use Rattle.bx_audit.specs.Inside.{GivesJust}
use Rattle.bx_audit.proofs.ByName.{no_journal}
use Rattle.bx_audit.proofs.audited_files.audited_into.Goals as goal

pub returns-in_err-day-clause-refused : goal.returns-in_err-day-clause-refused
returns-in_err-day-clause-refused g c =
    let o = c.args.opening in
    let fault = c.in_err-day.field-0.0 in
    let before = g.R.Read.remaining (device_of c.args.journal) in
    let p = err_from_is_err_and c.from_residual.result c.from_residual.ensures.1 in
    rw (p.1, p.2)
    (no_journal c.args.name.now o.digest o.channels o.exchange (GivesJust before) before _ _ fault refl c.in_err-day.ensures.refused)
