use Rattle.std.proofs.lemmas.Result.{err_from_is_err_and}
use Rattle.bx_plan_commands.proofs.NamedDays.{no_day}
use Rattle.bx_plan_commands.proofs.naming.day_of.Goals as goal

pub returns-in_err-new-clause-none : goal.returns-in_err-new-clause-none
returns-in_err-new-clause-none c =
    let p = err_from_is_err_and c.from_residual.result c.from_residual.ensures.1 in
    rw (p.1, p.2) (no_day c.args.date.now c.args.zone.now c.in_err-new.field-0.0 c.in_err-new.ensures.bad_date c.in_err-new.ensures.bad_zone c.in_err-new.ensures.out c.in_err-new.ensures.odd)
