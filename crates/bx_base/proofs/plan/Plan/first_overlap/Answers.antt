use Rattle.std.proofs.Common.{rules}
use Rattle.bx_base.proofs.plan.Plan.first_overlap.Goals as goal

pub returns-in-Some-clause-some : goal.returns-in-Some-clause-some
returns-in-Some-clause-some c = search rules steps 2000000

pub returns-in-Some-clause-least_first : goal.returns-in-Some-clause-least_first
returns-in-Some-clause-least_first c = search rules steps 400000

pub returns-in-Some-clause-least_second : goal.returns-in-Some-clause-least_second
returns-in-Some-clause-least_second c = search rules steps 400000
