use Rattle.std.proofs.Common.{subst, sym}
use Rattle.std.proofs.lemmas.Result.{on_ok_weaker}
use Rattle.std.specs.Prelude.{IfErr, OnOk}
use Rattle.bx_devices.specs.Devices.{writing_of}
use Rattle.bx_plan_commands.specs.FileRequests.{IsDone, IsAmendmentTold, IsFileRefused}
use Rattle.bx_request.specs.declared.request.FileRequest.{FileRequest}
use Rattle.bx_plan_commands.proofs.requests.run_on_files.Goals as goal

pub returns-in-Plan-clause-done : goal.returns-in-Plan-clause-done
returns-in-Plan-clause-done g c = subst (λ (r : FileRequest). OnOk c.plan_file.result (IsDone (g.I.Inputs.gives c.args.inputs.now) r (writing_of g.W.Write.contents c.args.output.now c.plan_file.new.output))) (sym c.in-Plan.is) (on_ok_weaker c.plan_file.result (λ w. w.planned) c.plan_file.ensures.planned)

pub returns-in-Plan-clause-told : goal.returns-in-Plan-clause-told
returns-in-Plan-clause-told g c = subst (λ (r : FileRequest). OnOk c.plan_file.result (IsAmendmentTold (g.I.Inputs.gives c.args.inputs.now) r (writing_of g.W.Write.contents c.args.output.now c.plan_file.new.output) (writing_of g.E.Write.contents c.args.errors.now c.plan_file.new.errors))) (sym c.in-Plan.is) c.plan_file.ensures.planned

pub returns-in-Plan-clause-silent : goal.returns-in-Plan-clause-silent
returns-in-Plan-clause-silent g c = c.plan_file.ensures.silent

pub returns-in-Plan-clause-refused : goal.returns-in-Plan-clause-refused
returns-in-Plan-clause-refused g c = subst (λ (r : FileRequest). IfErr c.plan_file.result (IsFileRefused (g.I.Inputs.gives c.args.inputs.now) r g.W.Write.contents c.args.output.now c.plan_file.new.output)) (sym c.in-Plan.is) c.plan_file.ensures.refused

pub returns-in-Check-clause-done : goal.returns-in-Check-clause-done
returns-in-Check-clause-done g c = subst (λ (r : FileRequest). OnOk c.check_file.result (IsDone (g.I.Inputs.gives c.args.inputs.now) r (writing_of g.W.Write.contents c.args.output.now c.check_file.new.output))) (sym c.in-Check.is) c.check_file.ensures.checked

pub returns-in-Check-clause-refused : goal.returns-in-Check-clause-refused
returns-in-Check-clause-refused g c = subst (λ (r : FileRequest). IfErr c.check_file.result (IsFileRefused (g.I.Inputs.gives c.args.inputs.now) r g.W.Write.contents c.args.output.now c.check_file.new.output)) (sym c.in-Check.is) c.check_file.ensures.refused

pub returns-in-Amend-clause-done : goal.returns-in-Amend-clause-done
returns-in-Amend-clause-done g c = subst (λ (r : FileRequest). OnOk c.amend_file.result (IsDone (g.I.Inputs.gives c.args.inputs.now) r (writing_of g.W.Write.contents c.args.output.now c.amend_file.new.output))) (sym c.in-Amend.is) (on_ok_weaker c.amend_file.result (λ w. w.held) c.amend_file.ensures.held)

pub returns-in-Amend-clause-told : goal.returns-in-Amend-clause-told
returns-in-Amend-clause-told g c = subst (λ (r : FileRequest). OnOk c.amend_file.result (IsAmendmentTold (g.I.Inputs.gives c.args.inputs.now) r (writing_of g.W.Write.contents c.args.output.now c.amend_file.new.output) (writing_of g.E.Write.contents c.args.errors.now c.amend_file.new.errors))) (sym c.in-Amend.is) c.amend_file.ensures.held

pub returns-in-Amend-clause-silent : goal.returns-in-Amend-clause-silent
returns-in-Amend-clause-silent g c = c.amend_file.ensures.silent

pub returns-in-Amend-clause-refused : goal.returns-in-Amend-clause-refused
returns-in-Amend-clause-refused g c = subst (λ (r : FileRequest). IfErr c.amend_file.result (IsFileRefused (g.I.Inputs.gives c.args.inputs.now) r g.W.Write.contents c.args.output.now c.amend_file.new.output)) (sym c.in-Amend.is) c.amend_file.ensures.refused

pub returns-in-Capacity-clause-done : goal.returns-in-Capacity-clause-done
returns-in-Capacity-clause-done g c = subst (λ (r : FileRequest). OnOk c.capacity_file.result (IsDone (g.I.Inputs.gives c.args.inputs.now) r (writing_of g.W.Write.contents c.args.output.now c.capacity_file.new.output))) (sym c.in-Capacity.is) c.capacity_file.ensures.written

pub returns-in-Capacity-clause-refused : goal.returns-in-Capacity-clause-refused
returns-in-Capacity-clause-refused g c = subst (λ (r : FileRequest). IfErr c.capacity_file.result (IsFileRefused (g.I.Inputs.gives c.args.inputs.now) r g.W.Write.contents c.args.output.now c.capacity_file.new.output)) (sym c.in-Capacity.is) c.capacity_file.ensures.refused

pub returns-in-Explain-clause-done : goal.returns-in-Explain-clause-done
returns-in-Explain-clause-done g c = subst (λ (r : FileRequest). OnOk c.explain_file.result (IsDone (g.I.Inputs.gives c.args.inputs.now) r (writing_of g.W.Write.contents c.args.output.now c.explain_file.new.output))) (sym c.in-Explain.is) c.explain_file.ensures.explained

pub returns-in-Explain-clause-refused : goal.returns-in-Explain-clause-refused
returns-in-Explain-clause-refused g c = subst (λ (r : FileRequest). IfErr c.explain_file.result (IsFileRefused (g.I.Inputs.gives c.args.inputs.now) r g.W.Write.contents c.args.output.now c.explain_file.new.output)) (sym c.in-Explain.is) c.explain_file.ensures.refused

pub returns-in-Quote-clause-done : goal.returns-in-Quote-clause-done
returns-in-Quote-clause-done g c = subst (λ (r : FileRequest). OnOk c.quote_file.result (IsDone (g.I.Inputs.gives c.args.inputs.now) r (writing_of g.W.Write.contents c.args.output.now c.quote_file.new.output))) (sym c.in-Quote.is) c.quote_file.ensures.quoted

pub returns-in-Quote-clause-refused : goal.returns-in-Quote-clause-refused
returns-in-Quote-clause-refused g c = subst (λ (r : FileRequest). IfErr c.quote_file.result (IsFileRefused (g.I.Inputs.gives c.args.inputs.now) r g.W.Write.contents c.args.output.now c.quote_file.new.output)) (sym c.in-Quote.is) c.quote_file.ensures.refused

pub returns-in-Chart-clause-done : goal.returns-in-Chart-clause-done
returns-in-Chart-clause-done g c = subst (λ (r : FileRequest). OnOk c.chart_file.result (IsDone (g.I.Inputs.gives c.args.inputs.now) r (writing_of g.W.Write.contents c.args.output.now c.chart_file.new.output))) (sym c.in-Chart.is) c.chart_file.ensures.drawn

pub returns-in-Chart-clause-refused : goal.returns-in-Chart-clause-refused
returns-in-Chart-clause-refused g c = subst (λ (r : FileRequest). IfErr c.chart_file.result (IsFileRefused (g.I.Inputs.gives c.args.inputs.now) r g.W.Write.contents c.args.output.now c.chart_file.new.output)) (sym c.in-Chart.is) c.chart_file.ensures.refused
