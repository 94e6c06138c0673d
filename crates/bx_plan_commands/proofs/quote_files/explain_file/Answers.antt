use Rattle.std.proofs.Common.{rules, ap}
use Rattle.std.proofs.lemmas.Result.{err_from_is_err_and}
use Rattle.bx_devices.specs.Devices.{writing_of}
use Rattle.bx_plan_commands.proofs.Refusals.{untold_row, untold}
use Rattle.bx_base.specs.PlanParts.{parts_of}
use Rattle.bx_plan_commands.proofs.quote_files.explain_file.Goals as goal
use Rattle.bx_plan_commands.proofs.quote_files.explain_file.Goals.{in-Some, in-None}

pub returns-clause-explained : goal.returns-clause-explained
returns-clause-explained g c = (parts_of c.in_ok-plan.plan, c.in_ok-plan.ensures.found, search rules steps 1000000)

pub returns-in_err-done-clause-refused : goal.returns-in_err-done-clause-refused
returns-in_err-done-clause-refused g c =
    let p = err_from_is_err_and c.from_residual-in_err-done.result c.from_residual-in_err-done.ensures.1 in
    rw (p.1, p.2) (
      parts_of c.in_ok-plan.plan,
      c.in_ok-plan.ensures.found,
      elim c.match-row.branch [
        | in-Some w ↦ untold_row c.args.row _ (parts_of c.in_ok-plan.plan) (writing_of g.W.Write.contents c.args.output.now w.write_explained-done.new.output) _ _ c.match-row.done c.in_err-done.field-0.0 w.in-Some.is (ap (writing_of g.W.Write.contents c.args.output.now) w.output-is) w.done-is c.in_err-done.was w.write_explained-done.ensures.refused
        | in-None w ↦ untold c.args.row (parts_of c.in_ok-plan.plan) (writing_of g.W.Write.contents c.args.output.now w.write_refused-done.new.output) _ _ c.match-row.done c.in_err-done.field-0.0 w.in-None.is (ap (writing_of g.W.Write.contents c.args.output.now) w.output-is) w.done-is c.in_err-done.was w.write_refused-done.ensures.refused
      ],
    )
