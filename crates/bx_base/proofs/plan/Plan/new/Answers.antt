use Rattle.std.proofs.Common.{arith, rules}
use Rattle.std.proofs.lemmas.Grind.{common_steps}
use Rattle.bx_base.proofs.plan.Plan.new.Goals as goal

pub returns-then-len-clause-exactly : goal.returns-then-len-clause-exactly
returns-then-len-clause-exactly c = search rules steps 400000

pub returns-clause-exactly : goal.returns-clause-exactly
returns-clause-exactly c = grind (arith, common_steps) steps 60000
