use Rattle.std.proofs.Common.{[], ◌++◌, Err, subst}
use Rattle.std.proofs.lemmas.List.{append-nil}
use Rattle.bx_devices.specs.Octets.{AppendsPrefix}
use Rattle.bx_base.specs.PlanParts.{parts_of}
use Rattle.bx_devices.specs.Watching.{device_of}
use Rattle.bx_planfile.specs.declared.version.Version.TheVariants.{Three}
use Rattle.bx_planfile.specs.Text.{plan_text}
use Rattle.bx_text.specs.Gathering.{held}
use Rattle.bx_text.proofs.GatheringSteps.{puts_then, whole_written}
use Rattle.bx_planfile.proofs.writing.write_plan.Goals as goal

pub returns-in-Err-clause-prefix : goal.returns-in-Err-clause-prefix
returns-in-Err-clause-prefix g c =
    let contents = g.W.Write.contents in
    let text = plan_text Three (parts_of c.args.plan.now) in
    let whole = puts_then contents (held c.args.w.now c.new-block.result) (held c.put_plan.new.w c.put_plan.new.block) (held c.write_out.new.w c.write_out.new.self) (Err c.in-Err.field-0) text [] c.in_ok-put_plan.ensures.text c.in-Err.ensures.text in
    subst (AppendsPrefix (contents (device_of c.args.w.now)) (contents (device_of c.write_out.new.w))) (append-nil text)
    (whole_written contents c.args.w.now c.write_out.new.w c.new-block.result c.write_out.new.self (text ++ []) c.new-block.ensures (Err c.in-Err.field-0) whole tt).prefix
