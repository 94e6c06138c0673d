use Rattle.std.proofs.Common.{◌≡◌}
use Rattle.bx_base.specs.PlanParts.{parts_of}
use Rattle.bx_devices.specs.declared.octets.WriteFailed.{WriteFailed}
use Rattle.bx_text.proofs.GatheringSteps.{done}
use Rattle.bx_text.specs.Gathering.{Gathers, held}
use Rattle.bx_plan_commands.specs.Notes.{note_below, is_begun}
use Rattle.bx_plan_commands.proofs.noting.put_note.Given as goal

abbrev pub invariant-loop-index : goal.invariant-loop-index
invariant-loop-index g l = record {
  begun : l.is_begun ≡ is_begun (parts_of l.plan) l.index;
  text : Gathers g.W.Write.contents (held l.fn.w l.fn.block) (held l.w l.block) (done {E = WriteFailed}) (note_below (parts_of l.plan) l.index);
}
