use Rattle.std.proofs.Common.{◌≡◌, ◌++◌, map, drop}
use Rattle.bx_office_world.specs.LastPlans.{last_plan_row, last_plan_rows}
use Rattle.bx_office_world.proofs.last_plans.last_plan_rows.Given as goal

abbrev pub invariant-loop-entry : goal.invariant-loop-entry
invariant-loop-entry l = l.rows ++ map last_plan_row (drop l.entry-index l.entries) ≡ last_plan_rows l.entries
