use Rattle.std.proofs.Common.{refl}
use Rattle.std.proofs.lemmas.Result.{err_from_is_err_and}
use Rattle.bx_devices.specs.Watching.{device_of}
use Rattle.bx_audit.specs.Given.{GivesByName}
use Rattle.bx_audit.proofs.ByName.{no_journal_as, unopened}
use Rattle.bx_audit.proofs.audited_files.read_through.Goals as goal

pub returns-in_err-journal-clause-refused : goal.returns-in_err-journal-clause-refused
returns-in_err-journal-clause-refused g c =
    let o = c.args.opening in
    let journals = GivesByName (g.H.Opens.opens c.args.rt.now) g.H.File.Read.remaining in
    let p = err_from_is_err_and c.from_residual.result c.from_residual.ensures.1 in
    rw (p.1, p.2) (unopened c.args.name.now o.digest o.channels o.exchange journals c.in_err-journal.field-0.0 c.in_err-journal.ensures.unopened)

pub returns-in_err-_through-clause-refused : goal.returns-in_err-_through-clause-refused
returns-in_err-_through-clause-refused g c =
    let o = c.args.opening in
    let file = device_of c.in_ok-journal.journal in
    let journals = GivesByName (g.H.Opens.opens c.args.rt.now) g.H.File.Read.remaining in
    let fault = c.in_err-_through.field-0.0 in
    let p = err_from_is_err_and c.from_residual-in_err-_through.result c.from_residual-in_err-_through.ensures.1 in
    rw (p.1, p.2)
    (no_journal_as c.args.name.now o.digest o.channels o.exchange journals (g.H.File.Read.remaining file) _ _ c.of_any_day-wanted.result fault c.of_any_day-wanted.ensures (file, c.in_ok-journal.ensures.opened, refl)
    c.in_err-_through.ensures.refused)
