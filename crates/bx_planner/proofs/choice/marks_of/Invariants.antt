use Rattle.std.proofs.Common.{◌≡◌, ℕ, ◌<◌, length}
use Rattle.bx_colour.specs.Colouring.{is_in}
use Rattle.bx_line.specs.Flows.{carries_unit}
use Rattle.bx_planner.proofs.choice.marks_of.Given as goal

abbrev pub invariant-loop-row : goal.invariant-loop-row
invariant-loop-row l =
    record {
      size : length l.marks.items ≡ l.row;
      each : (i : ℕ) → i < l.row → is_in l.marks.items i ≡ carries_unit l.carried i;
    }
