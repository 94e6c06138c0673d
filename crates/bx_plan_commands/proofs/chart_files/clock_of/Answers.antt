use Rattle.std.proofs.lemmas.Result.{err_from_is_err_and}
use Rattle.bx_plan_commands.proofs.NamedDays.{no_day}
use Rattle.bx_plan_commands.proofs.chart_files.clock_of.Goals as goal

pub returns-in_err-new-clause-none : goal.returns-in_err-new-clause-none
returns-in_err-new-clause-none c =
    let p = err_from_is_err_and c.from_residual.result c.from_residual.ensures.1 in
    rw (p.1, p.2, c.in-Some.is) (no_day c.in-Some.date.now c.in-Some.zone.now c.in_err-new.field-0.0 c.in_err-new.ensures.bad_date c.in_err-new.ensures.bad_zone c.in_err-new.ensures.out c.in_err-new.ensures.odd)

pub returns-clause-clock : goal.returns-clause-clock
returns-clause-clock c = rw c.in-Some.is c.in_ok-new.ensures.clock
