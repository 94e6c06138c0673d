use Rattle.std.proofs.Common.{◌≡◌, ℕ, ◌<◌, take, Some, None, get_or}
use Rattle.std.specs.List.{flat_map}
use Rattle.bx_channels.specs.ChannelNumbers.{IsChannel}
use Rattle.bx_planfile.specs.declared.version.Version.TheVariants.{Three}
use Rattle.bx_text.specs.Lines.{line_text}
use Rattle.bx_planfile.specs.Text.{booking_lines}
use Rattle.bx_planfile.specs.declared.fault.PlanWriteFault.{PlanWriteFault}
use Rattle.bx_text.proofs.GatheringSteps.{done}
use Rattle.bx_text.specs.Gathering.{Gathers, held}
use Rattle.bx_planfile.proofs.writing.put_bookings.Given as goal

abbrev pub invariant-loop-i : goal.invariant-loop-i
invariant-loop-i g l = record {
  text : Gathers g.W.Write.contents (held l.fn.w l.fn.block) (held l.w l.block) (done {E = PlanWriteFault}) (flat_map line_text (take l.i (booking_lines Three l.plan.bookings l.plan.assigned.items)));
  limits : (k c : ℕ) → k < l.i → get_or l.plan.assigned.items k None ≡ Some c → IsChannel c;
}
