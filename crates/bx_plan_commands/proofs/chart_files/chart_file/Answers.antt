use Rattle.std.proofs.Common.{inr, refl}
use Rattle.std.proofs.lemmas.Result.{err_from_is_err_and, on_ok_weaker}
use Rattle.bx_base.specs.PlanParts.{parts_of}
use Rattle.bx_devices.specs.Devices.{writing_of}
use Rattle.bx_plan_commands.proofs.Drawing.{no_clock, no_proved_plan, pictured, not_pictured}
use Rattle.bx_plan_commands.proofs.chart_files.chart_file.Goals as goal

pub returns-in_err-clock-clause-refused : goal.returns-in_err-clock-clause-refused
returns-in_err-clock-clause-refused g c =
    let p = err_from_is_err_and c.from_residual.result c.from_residual.ensures.1 in
    rw (p.1, p.2) (no_clock (g.I.Inputs.gives c.args.inputs.now) c.args.day c.args.plan.now g.W.Write.contents c.args.output.now c.in_err-clock.field-0.0 c.in_err-clock.ensures.none)

pub returns-in_err-plan-clause-refused : goal.returns-in_err-plan-clause-refused
returns-in_err-plan-clause-refused g c =
    let p = err_from_is_err_and c.from_residual-in_err-plan.result c.from_residual-in_err-plan.ensures.1 in
    rw (p.1, p.2) (inr ((c.in_ok-clock.clock, c.in_ok-clock.ensures.clock), no_proved_plan (g.I.Inputs.gives c.args.inputs.now) c.args.day c.args.plan.now c.in_err-plan.field-0.0 c.in_err-plan.ensures.none), refl)

pub returns-clause-drawn : goal.returns-clause-drawn
returns-clause-drawn g c = on_ok_weaker c.draw_plan.result
    (pictured (g.I.Inputs.gives c.args.inputs.now) c.args.day c.args.plan.now (parts_of c.in_ok-plan.plan) c.in_ok-clock.clock (writing_of g.W.Write.contents c.args.output.now c.draw_plan.new.output) c.in_ok-plan.ensures.found c.in_ok-clock.ensures.clock)
    c.draw_plan.ensures.drawn

pub returns-clause-refused : goal.returns-clause-refused
returns-clause-refused g c = not_pictured (g.I.Inputs.gives c.args.inputs.now) c.args.day c.args.plan.now (parts_of c.in_ok-plan.plan) c.in_ok-clock.clock g.W.Write.contents c.args.output.now c.draw_plan.new.output c.in_ok-plan.ensures.found c.in_ok-clock.ensures.clock c.draw_plan.result c.draw_plan.ensures.refused
