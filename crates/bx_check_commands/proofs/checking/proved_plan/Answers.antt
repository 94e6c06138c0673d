use Rattle.std.proofs.lemmas.Result.{err_from_is_err_and}
use Rattle.bx_devices.specs.Devices.{reading_of}
use Rattle.bx_base.specs.PlanParts.{parts_of}
use Rattle.bx_check_commands.proofs.Judging.{unproved}
use Rattle.bx_check_commands.proofs.checking.proved_plan.Goals as goal

pub returns-in_err-_total-clause-refused : goal.returns-in_err-_total-clause-refused
returns-in_err-_total-clause-refused g c =
    let p = err_from_is_err_and c.from_residual-in_err-_total.result c.from_residual-in_err-_total.ensures.1 in
    rw (p.1, p.2) (unproved c.args.name.now (reading_of g.R.Read.remaining c.args.input.now c.plan_from.new.input) (parts_of c.in_ok-plan.plan) c.in_ok-plan.ensures.found c.in_err-_total.field-0.0 c.in_err-_total.ensures.refused)
