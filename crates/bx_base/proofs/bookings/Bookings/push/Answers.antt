use Rattle.std.proofs.Common.{arith, rules}
use Rattle.std.proofs.lemmas.Grind.{common_steps}
use Rattle.bx_base.proofs.bookings.Bookings.push.Goals as goal

pub invariant_of-self : goal.invariant_of-self
invariant_of-self c = search rules steps 2000000

pub returns-clause-ok : goal.returns-clause-ok
returns-clause-ok c = grind (arith, common_steps) steps 60000

pub returns-clause-full : goal.returns-clause-full
returns-clause-full c = grind (arith, common_steps) steps 60000

pub returns-clause-err : goal.returns-clause-err
returns-clause-err c = grind (arith, common_steps) steps 60000
