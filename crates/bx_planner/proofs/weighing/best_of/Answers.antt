use Rattle.std.proofs.Common.{rules}
use Rattle.bx_planner.proofs.weighing.best_of.Goals as goal

pub unreachable-requires : goal.unreachable-requires
unreachable-requires c = c.requires c.in-Err-TooManyMust.field-0-0 ((c.in-Err-TooManyMust.ensures.musts c.in-Err-TooManyMust.field-0-0).0 (search rules steps 1000000))
