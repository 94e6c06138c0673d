use Rattle.std.proofs.Common.{inl, inr, refl}
use Rattle.std.proofs.lemmas.Result.{err_from_is_err_and, on_ok_weaker}
use Rattle.bx_base.specs.PlanParts.{parts_of}
use Rattle.bx_devices.specs.Devices.{writing_of}
use Rattle.bx_plan_commands.proofs.SecondHalves.{held_before, unamended_before}
use Rattle.bx_plan_commands.specs.FilePlans.{IsEarlierPlan}
use Rattle.bx_plan_commands.proofs.plan_files.amend_file.Goals as goal

pub returns-in_err-earlier-clause-refused : goal.returns-in_err-earlier-clause-refused
returns-in_err-earlier-clause-refused g c =
    let p = err_from_is_err_and c.from_residual-in_err-earlier.result c.from_residual-in_err-earlier.ensures.1 in
    rw (p.1, p.2) (inr (inl ((c.in_ok-day.day, c.in_ok-day.ensures.named), c.in_err-earlier.ensures.none)), refl)

pub returns-clause-held : goal.returns-clause-held
returns-clause-held g c =
    let given : IsEarlierPlan (g.I.Inputs.gives c.args.inputs.now) c.args.day.0.now c.args.day.1.now c.args.plan.now = record { day = c.in_ok-day.day; day_of = c.in_ok-day.ensures.named; earlier = parts_of c.in_ok-earlier.earlier; earlier_of = c.in_ok-earlier.ensures.found } in
    on_ok_weaker c.amend_with.result (held_before (g.I.Inputs.gives c.args.inputs.now) (g.I.Inputs.gives c.plan_named.new.inputs) c.in_ok-earlier.ensures.no_more c.args.day.0.now c.args.day.1.now c.args.plan.now c.args.bookings.now given
    (writing_of g.W.Write.contents c.args.output.now c.amend_with.new.output) (writing_of g.E.Write.contents c.args.errors.now c.amend_with.new.errors)) c.amend_with.ensures.held

pub returns-clause-refused : goal.returns-clause-refused
returns-clause-refused g c =
    let given : IsEarlierPlan (g.I.Inputs.gives c.args.inputs.now) c.args.day.0.now c.args.day.1.now c.args.plan.now = record { day = c.in_ok-day.day; day_of = c.in_ok-day.ensures.named; earlier = parts_of c.in_ok-earlier.earlier; earlier_of = c.in_ok-earlier.ensures.found } in
    unamended_before (g.I.Inputs.gives c.args.inputs.now) (g.I.Inputs.gives c.plan_named.new.inputs) c.in_ok-earlier.ensures.no_more c.args.day.0.now c.args.day.1.now c.args.plan.now c.args.bookings.now given g.W.Write.contents c.args.output.now c.amend_with.new.output c.amend_with.result c.amend_with.ensures.refused
