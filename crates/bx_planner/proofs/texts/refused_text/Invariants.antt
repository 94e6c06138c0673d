use Rattle.std.proofs.Common.{◌≡◌, ◌≤◌, length}
use Rattle.std.specs.List.{flat_map}
use Rattle.bx_base.specs.PlanParts.{parts_of}
use Rattle.bx_planner.specs.Texts.{refused_line, refused_rows}
use Rattle.bx_planner.proofs.texts.refused_text.Given as goal

abbrev pub invariant-loop-index : goal.invariant-loop-index
invariant-loop-index l =
    record {
      lines : l.text.items ≡ flat_map (refused_line (parts_of l.plan)) (refused_rows (parts_of l.plan) l.index);
      count : l.refused ≡ length (refused_rows (parts_of l.plan) l.index);
      few : l.refused ≤ l.index;
    }
