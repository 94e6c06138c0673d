use Rattle.std.proofs.Common.{inl, inr, sym, subst}
use Rattle.std.proofs.lemmas.Result.{err_from_is_err_and}
use Rattle.bx_day_openings.specs.declared.fault.DayCommandFault.{DayCommandFault}
use Rattle.bx_audit.proofs.Audited.{opens_with}
use Rattle.bx_audit.specs.Given.{GivesByName}
use Rattle.bx_audit.specs.Inside.{IsUnreadThrough}
use Rattle.bx_audit.proofs.audited_files.tied_through.Goals as goal

pub returns-in_err-tied-clause-refused : goal.returns-in_err-tied-clause-refused
returns-in_err-tied-clause-refused g c =
    let p = err_from_is_err_and c.from_residual.result c.from_residual.ensures.1 in
    rw (p.1, p.2) (inl c.in_err-tied.ensures.none)

pub returns-in_err-opening-clause-refused : goal.returns-in_err-opening-clause-refused
returns-in_err-opening-clause-refused g c =
    let p = err_from_is_err_and c.from_residual-in_err-opening.result c.from_residual-in_err-opening.ensures.1 in
    rw (p.1, p.2)
    (subst (λ (fault : DayCommandFault). IsUnreadThrough (g.I.Inputs.gives c.args.inputs.now) (GivesByName (g.H.Opens.opens c.args.rt.now) g.H.File.Read.remaining) c.args.plan.now c.args.journal.now fault) (sym c.in_err-opening.ensures.refused) (inl tt))

pub returns-in_err-read_through-clause-refused : goal.returns-in_err-read_through-clause-refused
returns-in_err-read_through-clause-refused g c =
    let o = c.in_ok-opening.opening in
    let p = err_from_is_err_and c.from_residual-in_err-read_through.result c.from_residual-in_err-read_through.ensures.1 in
    rw (p.1, p.2)
    (inr (o.exchange, o.channels, o.digest, opens_with (g.I.Inputs.gives c.args.inputs.now) c.args.plan.now c.in_ok-tied.tied o c.in_ok-tied.ensures.given c.in_ok-opening.ensures.opened, c.in_err-read_through.ensures.refused))

pub returns-clause-through : goal.returns-clause-through
returns-clause-through g c =
    let o = c.in_ok-opening.opening in
    let read = c.in_ok-read_through.ensures.read in
    (o.exchange, o.channels, o.digest, opens_with (g.I.Inputs.gives c.args.inputs.now) c.args.plan.now c.in_ok-tied.tied o c.in_ok-tied.ensures.given c.in_ok-opening.ensures.opened, (read.1.before, read.1.given, (read.0, read.1.through)))
