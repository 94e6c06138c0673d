use Rattle.std.proofs.Common.{arith, rules}
use Rattle.std.proofs.lemmas.Grind.{common_steps}
use Rattle.bx_dist.proofs.carried.Carried.accepted.Goals as goal

pub returns-then-row-len-clause-row : goal.returns-then-row-len-clause-row
returns-then-row-len-clause-row c = grind (arith, common_steps) steps 60000

pub returns-then-row-len-clause-no_row : goal.returns-then-row-len-clause-no_row
returns-then-row-len-clause-no_row c = search rules steps 60000

pub returns-else-row-len-clause-row : goal.returns-else-row-len-clause-row
returns-else-row-len-clause-row c = grind (arith, common_steps) steps 60000
