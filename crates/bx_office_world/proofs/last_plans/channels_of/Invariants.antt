use Rattle.std.proofs.Common.{◌≡◌, map, take}
use Rattle.bx_office_world.specs.LastPlans.{given}
use Rattle.bx_office_world.proofs.last_plans.channels_of.Given as goal

abbrev pub invariant-loop-index : goal.invariant-loop-index
invariant-loop-index l = l.assigned.items ≡ map given (take l.index l.entries)
