use Rattle.std.proofs.Common.{[], ◌++◌, sym, ◌∙◌}
use Rattle.std.proofs.lemmas.List.{append-nil}
use Rattle.bx_base.specs.PlanParts.{parts_of}
use Rattle.bx_devices.specs.declared.octets.WriteFailed.{WriteFailed}
use Rattle.bx_text.proofs.GatheringSteps.{puts_then, whole_written}
use Rattle.bx_text.specs.Gathering.{held}
use Rattle.bx_plan_commands.proofs.NotedRows.{put_so, written_so}
use Rattle.bx_plan_commands.specs.Notes.{note_text}
use Rattle.bx_plan_commands.proofs.noting.note_too_short.Goals as goal

pub returns-then-is_ok : goal.returns-then-is_ok
returns-then-is_ok g c =
    let contents = g.E.Write.contents in
    let plan = parts_of c.args.plan.now in
    let put = put_so contents {F = WriteFailed} (held c.args.errors.now c.new-block.result) (held c.put_note.new.w c.put_note.new.block) c.put_note.result (note_text plan) (sym c.is_ok.ensures.value ∙ c.if-is_ok.true) c.put_note.ensures in
    let whole = puts_then contents (held c.args.errors.now c.new-block.result) (held c.put_note.new.w c.put_note.new.block) (held c.write_out-told.new.w c.write_out-told.new.self) c.write_out-told.result (note_text plan) [] put c.write_out-told.ensures.text in
    written_so contents plan c.args.errors.now c.write_out-told.new.w c.write_out-told.result (note_text plan ++ []) (append-nil (note_text plan))
    (whole_written contents c.args.errors.now c.write_out-told.new.w c.new-block.result c.write_out-told.new.self (note_text plan ++ []) c.new-block.ensures c.write_out-told.result whole c.write_out-told.ensures.empty)
