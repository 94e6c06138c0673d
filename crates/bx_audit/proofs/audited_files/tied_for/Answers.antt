use Rattle.bx_audit.proofs.AuditAnswers.{for_capture}
use Rattle.bx_audit.proofs.Handed.{on_ok}
use Rattle.bx_audit.specs.AuditRefusals.{HasJournal}
use Rattle.bx_audit.specs.Given.{GivesByName}
use Rattle.bx_audit.specs.Inside.{IsReadFor}
use Rattle.bx_audit.proofs.audited_files.tied_for.Goals as goal

pub returns-then-is_some-clause-through : goal.returns-then-is_some-clause-through
returns-then-is_some-clause-through g c =
    let request = c.args.request in
    let journals = GivesByName (g.H.Opens.opens c.args.rt.now) g.H.File.Read.remaining in
    let P = HasJournal (g.I.Inputs.gives c.args.inputs.now) journals request.plan.now request.journal.now in
    on_ok P (IsReadFor request.capture P) c.tied_through.result (for_capture request.capture P) c.tied_through.ensures.through
