use Rattle.std.proofs.Common.{take, map}
use Rattle.std.specs.List.{flat_map}
use Rattle.bx_devices.specs.declared.octets.WriteFailed.{WriteFailed}
use Rattle.bx_text.specs.Lines.{line_text}
use Rattle.bx_text.specs.Gathering.{Gathers, held}
use Rattle.bx_text.proofs.GatheringSteps.{done}
use Rattle.bx_day.specs.Telling.{entry_fields}
use Rattle.bx_day.proofs.outcome_lines.put_entries.Given as goal

abbrev pub invariant-loop-entry : goal.invariant-loop-entry
invariant-loop-entry g l = Gathers g.W.Write.contents (held l.fn.writer l.fn.block) (held l.writer l.block) (done {E = WriteFailed}) (flat_map line_text (take l.entry-index (map (entry_fields l.fn.given_up) l.entries)))
