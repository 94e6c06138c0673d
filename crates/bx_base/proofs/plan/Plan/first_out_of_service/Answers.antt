use Rattle.std.proofs.Common.{arith, rules}
use Rattle.std.proofs.lemmas.Grind.{common_steps}
use Rattle.bx_base.proofs.plan.Plan.first_out_of_service.Goals as goal

pub returns-then-not-has-clause-some : goal.returns-then-not-has-clause-some
returns-then-not-has-clause-some c = grind (arith, common_steps) steps 60000

pub returns-then-not-has-clause-least : goal.returns-then-not-has-clause-least
returns-then-not-has-clause-least c = search rules steps 400000

pub loop-i-preserved : goal.loop-i-preserved
loop-i-preserved c = grind (arith, common_steps) steps 400000
