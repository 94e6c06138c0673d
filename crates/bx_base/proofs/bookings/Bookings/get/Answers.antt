use Rattle.std.proofs.Common.{arith, rules}
use Rattle.std.proofs.lemmas.Grind.{common_steps}
use Rattle.bx_base.proofs.bookings.Bookings.get.Goals as goal

pub nth-requires : goal.nth-requires
nth-requires c = grind (arith, common_steps) steps 60000

pub overflow_sub-row : goal.overflow_sub-row
overflow_sub-row c = search rules steps 60000

pub returns-clause-exactly : goal.returns-clause-exactly
returns-clause-exactly c = search rules steps 60000

pub returns-clause-value : goal.returns-clause-value
returns-clause-value c = search rules steps 60000
