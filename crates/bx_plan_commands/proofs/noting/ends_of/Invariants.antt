use Rattle.std.proofs.Common.{◌≡◌, ◌≤◌, length}
use Rattle.bx_base.specs.PlanParts.{parts_of}
use Rattle.bx_plan_commands.specs.Notes.{ends_below}
use Rattle.bx_plan_commands.proofs.noting.ends_of.Given as goal

abbrev pub invariant-loop-index : goal.invariant-loop-index
invariant-loop-index l = record {
  items : l.ends.items ≡ ends_below (parts_of l.plan) l.index;
  few : length l.ends.items ≤ l.index;
}
