use Rattle.std.proofs.Common.{refl, inl, inr}
use Rattle.std.proofs.lemmas.Result.{err_from_is_err_and, on_ok_weaker}
use Rattle.bx_devices.specs.Devices.{writing_of}
use Rattle.bx_plan_commands.proofs.SecondHalves.{checked_before, unchecked_before}
use Rattle.bx_plan_commands.specs.FilePlans.{AreRowsFor}
use Rattle.bx_plan_commands.proofs.plan_files.check_file.Goals as goal

pub returns-in_err-rows-clause-refused : goal.returns-in_err-rows-clause-refused
returns-in_err-rows-clause-refused g c =
    let p = err_from_is_err_and c.from_residual-in_err-rows.result c.from_residual-in_err-rows.ensures.1 in
    rw (p.1, p.2) (inl (
      inr (inl (c.in_ok-channels.channels, c.in_ok-channels.day, c.in_ok-channels.ensures.named, c.in_err-rows.ensures.none)),
      refl {a = c.args.output.now},
    ))

pub returns-clause-checked : goal.returns-clause-checked
returns-clause-checked g c =
    let given : AreRowsFor (g.I.Inputs.gives c.args.inputs.now) c.args.terms.now c.args.bookings.now = record { channels = c.in_ok-channels.channels; day = c.in_ok-channels.day; named = c.in_ok-channels.ensures.named; rows = c.in_ok-rows.rows; rows_of = c.in_ok-rows.ensures.found } in
    on_ok_weaker c.check_named.result (checked_before (g.I.Inputs.gives c.args.inputs.now) (g.I.Inputs.gives c.bookings_named.new.inputs) c.in_ok-rows.ensures.no_more c.args.terms.now c.args.bookings.now c.args.plan.now given (writing_of g.W.Write.contents c.args.output.now c.check_named.new.output)) c.check_named.ensures.checked

pub returns-clause-refused : goal.returns-clause-refused
returns-clause-refused g c =
    let given : AreRowsFor (g.I.Inputs.gives c.args.inputs.now) c.args.terms.now c.args.bookings.now = record { channels = c.in_ok-channels.channels; day = c.in_ok-channels.day; named = c.in_ok-channels.ensures.named; rows = c.in_ok-rows.rows; rows_of = c.in_ok-rows.ensures.found } in
    unchecked_before (g.I.Inputs.gives c.args.inputs.now) (g.I.Inputs.gives c.bookings_named.new.inputs) c.in_ok-rows.ensures.no_more c.args.terms.now c.args.bookings.now c.args.plan.now given g.W.Write.contents c.args.output.now c.check_named.new.output c.check_named.result c.check_named.ensures.refused
