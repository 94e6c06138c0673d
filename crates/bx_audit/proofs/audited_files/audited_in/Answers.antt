use Rattle.std.proofs.Common.{inl, inr, refl}
use Rattle.std.proofs.lemmas.Result.{err_from_is_err_and}
use Rattle.bx_devices.specs.Watching.{device_of}
use Rattle.bx_day_openings.proofs.Replays.{if_ok}
use Rattle.bx_audit.specs.AuditRefusals.{HasJournal}
use Rattle.bx_audit.specs.Audits.{IsDayAuditedBy}
use Rattle.bx_audit.specs.Given.{GivesByName}
use Rattle.bx_audit.specs.Inside.{GivesJust, IsAuditedInto}
use Rattle.bx_audit.proofs.Audited.{opens_with}
use Rattle.bx_audit.proofs.AuditAnswers.{of_capture}
use Rattle.bx_audit.proofs.ByName.{unopened, given_so}
use Rattle.bx_audit.proofs.Handed.{if_err}
use Rattle.bx_audit.proofs.audited_files.audited_in.Goals as goal

pub returns-in_err-file-clause-stopped : goal.returns-in_err-file-clause-stopped
returns-in_err-file-clause-stopped g c =
    let fault = c.in_err-file.field-0.0 in
    let none = c.in_err-file.ensures.refused in
    let p = err_from_is_err_and c.from_residual-in_err-file.result c.from_residual-in_err-file.ensures.1 in
    rw (p.1, p.2)
    (inr (inr (inr ((c.in_ok-first.first, c.in_ok-first.ensures.first), of_capture c.args.request.capture (HasJournal (g.I.Inputs.gives c.args.inputs.now) (GivesByName (g.H.Opens.opens c.args.rt.now) g.H.File.Read.remaining) c.args.request.plan.now c.args.request.journal.now) fault c.in_ok-tied.ensures.through none, none))))

pub returns-in_err-journal-clause-stopped : goal.returns-in_err-journal-clause-stopped
returns-in_err-journal-clause-stopped g c =
    let o = c.in_ok-opening.opening in
    let journals = GivesByName (g.H.Opens.opens c.args.rt.now) g.H.File.Read.remaining in
    let p = err_from_is_err_and c.from_residual-in_err-journal.result c.from_residual-in_err-journal.ensures.1 in
    rw (p.1, p.2)
    (inr (inr (inl ((c.in_ok-first.first, c.in_ok-first.ensures.first), (o.exchange, o.channels, o.digest, opens_with (g.I.Inputs.gives c.args.inputs.now) c.args.request.plan.now c.in_ok-tied.tied o c.in_ok-tied.ensures.tied c.in_ok-opening.ensures.opened, unopened c.args.request.journal.now o.digest o.channels o.exchange journals c.in_err-journal.field-0.0 c.in_err-journal.ensures.unopened)))))

pub returns-clause-audited : goal.returns-clause-audited
returns-clause-audited g c =
    let o = c.in_ok-opening.opening in
    let journal = device_of c.in_ok-journal.journal in
    let before = g.H.File.Read.remaining journal in
    let journals = GivesByName (g.H.Opens.opens c.args.rt.now) g.H.File.Read.remaining in
    if_ok (λ audited. IsAuditedInto g.H.File.Write.contents o before c.in_ok-file.file c.in_ok-first.first audited.0.exchange audited.0.given_up.items audited.1) (λ audited. IsDayAuditedBy (g.I.Inputs.gives c.args.inputs.now) journals g.H.File.Write.contents c.args.request audited.0.exchange audited.0.given_up.items audited.1) c.audited_into.result
    (λ audited told. record {
      opened = o.exchange;
      channels = o.channels;
      digest = o.digest;
      opens = opens_with (g.I.Inputs.gives c.args.inputs.now) c.args.request.plan.now c.in_ok-tied.tied o c.in_ok-tied.ensures.tied c.in_ok-opening.ensures.opened;
      first = c.in_ok-first.first;
      begins = c.in_ok-first.ensures.first;
      file = c.in_ok-file.file;
      file_opens = c.in_ok-file.ensures.opened;
      before = before;
      given = (journal, c.in_ok-journal.ensures.opened, refl);
      closed = told.closed;
      audited = told.audited;
      whole = told.whole;
    }) c.audited_into.ensures.audited

pub returns-clause-stopped : goal.returns-clause-stopped
returns-clause-stopped g c =
    let o = c.in_ok-opening.opening in
    let journal = device_of c.in_ok-journal.journal in
    let before = g.H.File.Read.remaining journal in
    let journals = GivesByName (g.H.Opens.opens c.args.rt.now) g.H.File.Read.remaining in
    let name = c.args.request.journal.now in
    if_err _ _ c.audited_into.result
    (λ fault refused. inr (inr (inl ((c.in_ok-first.first, c.in_ok-first.ensures.first), (o.exchange, o.channels, o.digest, opens_with (g.I.Inputs.gives c.args.inputs.now) c.args.request.plan.now c.in_ok-tied.tied o c.in_ok-tied.ensures.tied c.in_ok-opening.ensures.opened, given_so name o.digest o.channels o.exchange (GivesJust before) journals (λ text is. (journal, c.in_ok-journal.ensures.opened, is)) fault refused)))))
    c.audited_into.ensures.refused
