use Rattle.std.proofs.lemmas.Result.{err_from_is_err_and}
use Rattle.bx_base.specs.PlanParts.{parts_of}
use Rattle.bx_plan_commands.proofs.Refusals.{errors_alike}
use Rattle.bx_plan_commands.proofs.SecondHalves.{without_more}
use Rattle.bx_plan_commands.proofs.plan_files.amend_with.Goals as goal

pub returns-in_err-more-clause-refused : goal.returns-in_err-more-clause-refused
returns-in_err-more-clause-refused g c =
    let p = err_from_is_err_and c.from_residual.result c.from_residual.ensures.1 in
    rw (p.1, p.2) (without_more (g.I.Inputs.gives c.args.inputs.now) c.args.day.now (parts_of c.args.earlier.now) c.args.bookings.now g.W.Write.contents c.args.output.now c.in_err-more.field-0.0 c.in_err-more.ensures.none)

pub returns-in-Ok-clause-held : goal.returns-in-Ok-clause-held
returns-in-Ok-clause-held g c = record {
  more = c.in_ok-more.more;
  more_of = c.in_ok-more.ensures.found;
  longer = parts_of c.in-Ok.amended;
  planned = c.in-Ok.ensures.amended;
  noted = c.note_too_short.ensures;
}

pub returns-clause-refused : goal.returns-clause-refused
returns-clause-refused g c = record {
  more = c.in_ok-more.more;
  more_of = c.in_ok-more.ensures.found;
  refused = c.in-Err.ensures.refused;
  told = record { full = errors_alike _ _ _ c.in-Err.ensures.full; musts = λ t. errors_alike _ _ _ (c.in-Err.ensures.musts t) };
}
