use Rattle.std.proofs.Common.{rules}
use Rattle.bx_base.specs.PlanParts.{parts_of}
use Rattle.bx_planner.proofs.Proved.{proved_plan}
use Rattle.bx_plan_commands.proofs.planning.plan_of.Goals as goal

pub returns-in-Err-TooManyMust-clause-err : goal.returns-in-Err-TooManyMust-clause-err
returns-in-Err-TooManyMust-clause-err c = (c.in-Err-TooManyMust.ensures.musts c.in-Err-TooManyMust.moment).0 (search rules)

pub returns-in-Ok-clause-ok : goal.returns-in-Ok-clause-ok
returns-in-Ok-clause-ok c = let e = c.in-Ok.ensures in proved_plan c.args.bookings.now c.args.channels (parts_of c.in-Ok.plan) e.bookings e.channels e.carried e.lawful e.total e.prices e.best e.least
