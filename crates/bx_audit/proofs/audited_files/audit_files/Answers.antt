use Rattle.std.proofs.Common.{Bool, subst}
use Rattle.std.proofs.lemmas.Result.{err_from_is_err_and}
use Rattle.bx_devices.specs.Devices.{writing_of}
use Rattle.bx_devices.specs.Watching.{device_of}
use Rattle.bx_audit.specs.Audits.{IsDayAuditedBy, IsAuditToldBy, IsAuditToldWhole, IsAuditToldByName}
use Rattle.bx_audit.specs.Given.{GivesByName}
use Rattle.bx_audit.proofs.AuditAnswers.{stopped, uncaptured, whole_without}
use Rattle.bx_audit.proofs.ByName.{untold_audit, untold_refusal}
use Rattle.bx_audit.proofs.Handed.{on_ok, if_err}
use Rattle.bx_audit.proofs.audited_files.audit_files.Goals as goal

pub returns-in_err-day-clause-refused_by_name : goal.returns-in_err-day-clause-refused_by_name
returns-in_err-day-clause-refused_by_name g c =
    let fault = c.in_err-day.field-0.0 in
    let journals = GivesByName (g.H.Opens.opens c.args.rt.now) g.H.File.Read.remaining in
    let p = err_from_is_err_and c.from_residual.result c.from_residual.ensures.1 in
    rw (p.1, p.2)
    (stopped (g.I.Inputs.gives c.args.inputs.now) journals c.args.request g.H.File.Write.contents g.W.Write.contents c.args.output.now fault c.in_err-day.ensures.stopped)

pub returns-in_err-day-clause-refused : goal.returns-in_err-day-clause-refused
returns-in_err-day-clause-refused g c =
    let fault = c.in_err-day.field-0.0 in
    let gives = g.I.Inputs.gives c.args.inputs.now in
    let journals = GivesByName (g.H.Opens.opens c.args.rt.now) g.H.File.Read.remaining in
    let output = c.args.output.now in
    let p = err_from_is_err_and c.from_residual.result c.from_residual.ensures.1 in
    rw (p.1, p.2)
    (untold_refusal journals gives g.H.File.Write.contents c.args.request g.W.Write.contents output output fault
    (stopped gives journals c.args.request g.H.File.Write.contents g.W.Write.contents output fault c.in_err-day.ensures.stopped))

pub returns-in_err-write_outcomes-clause-refused_by_name : goal.returns-in_err-write_outcomes-clause-refused_by_name
returns-in_err-write_outcomes-clause-refused_by_name g c =
    let r = c.from_residual-in_err-write_outcomes in
    let p = err_from_is_err_and r.result r.ensures.1 in
    rw (p.1, p.2)
    (c.in_err-write_outcomes.ensures.err, record { day = c.in_ok-day.day.exchange; given_up = c.in_ok-day.day.given_up.items; is_whole = c.in_ok-day.is_whole; audit = c.in_ok-day.ensures.audited; written = rw c.deref.ensures.value at c.in_err-write_outcomes.ensures.prefix })

pub returns-in_err-write_outcomes-clause-refused : goal.returns-in_err-write_outcomes-clause-refused
returns-in_err-write_outcomes-clause-refused g c =
    let journals = GivesByName (g.H.Opens.opens c.args.rt.now) g.H.File.Read.remaining in
    if_err _ _ _
    (untold_refusal journals (g.I.Inputs.gives c.args.inputs.now) g.H.File.Write.contents c.args.request g.W.Write.contents c.args.output.now c.write_outcomes.new.writer) (returns-in_err-write_outcomes-clause-refused_by_name g c)

pub returns-clause-named : goal.returns-clause-named
returns-clause-named g c =
    let files = g.H.File.Write.contents in
    let gives = g.I.Inputs.gives c.args.inputs.now in
    let opens = g.H.Opens.opens c.args.rt.now in
    let remaining = g.H.File.Read.remaining in
    let journals = GivesByName opens remaining in
    let ended = c.in_ok-day.day.exchange in
    let given_up = c.in_ok-day.day.given_up.items in
    let is_whole = c.in_ok-day.is_whole in
    let audit = c.in_ok-day.ensures.audited in
    on_ok _ (IsAuditToldByName opens remaining gives files c.args.request (writing_of g.W.Write.contents c.args.output.now c.write_outcomes.new.writer)) c.captured.result
    (λ whole. record { day = ended; given_up = given_up; audit = subst (λ (b : Bool). IsDayAuditedBy gives journals files c.args.request ended given_up b) (whole_without gives journals files c.args.request ended given_up is_whole audit whole) audit; written = rw c.deref.ensures.value at c.in_ok-write_outcomes.ensures.ok }) c.captured.ensures.whole

pub returns-clause-done : goal.returns-clause-done
returns-clause-done g c =
    let files = g.H.File.Write.contents in
    let gives = g.I.Inputs.gives c.args.inputs.now in
    let opens = g.H.Opens.opens c.args.rt.now in
    let remaining = g.H.File.Read.remaining in
    let output = writing_of g.W.Write.contents c.args.output.now c.write_outcomes.new.writer in
    on_ok (IsAuditToldByName opens remaining gives files c.args.request output) (IsAuditToldWhole gives files c.args.request output) c.captured.result
    (untold_audit (GivesByName opens remaining) gives files c.args.request _ _ _) (returns-clause-named g c)

pub returns-clause-refused_by_name : goal.returns-clause-refused_by_name
returns-clause-refused_by_name g c =
    let files = g.H.File.Write.contents in
    let gives = g.I.Inputs.gives c.args.inputs.now in
    let journals = GivesByName (g.H.Opens.opens c.args.rt.now) g.H.File.Read.remaining in
    let old = c.args.output.now in
    let new = c.write_outcomes.new.writer in
    let before = g.W.Write.contents (device_of old) in
    let after = g.W.Write.contents (device_of new) in
    let told : IsAuditToldBy gives journals files c.args.request before after c.in_ok-day.is_whole = record { day = c.in_ok-day.day.exchange; given_up = c.in_ok-day.day.given_up.items; audit = c.in_ok-day.ensures.audited; written = rw c.deref.ensures.value at c.in_ok-write_outcomes.ensures.ok } in
    if_err _ _ c.captured.result
    (λ fault cut. uncaptured gives journals c.args.request files g.W.Write.contents old new fault (subst (λ (b : Bool). IsAuditToldBy gives journals files c.args.request before after b) cut.1 told) cut.0) c.captured.ensures.cut

pub returns-clause-refused : goal.returns-clause-refused
returns-clause-refused g c =
    let journals = GivesByName (g.H.Opens.opens c.args.rt.now) g.H.File.Read.remaining in
    if_err _ _ c.captured.result
    (untold_refusal journals (g.I.Inputs.gives c.args.inputs.now) g.H.File.Write.contents c.args.request g.W.Write.contents c.args.output.now c.write_outcomes.new.writer) (returns-clause-refused_by_name g c)
