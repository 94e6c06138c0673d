use Rattle.std.proofs.Common.{arith, rules}
use Rattle.std.proofs.lemmas.Grind.{common_steps}
use Rattle.bx_base.proofs.booking.Booking.new.Goals as goal

pub invariant_of-result : goal.invariant_of-result
invariant_of-result c = grind (arith, common_steps) steps 60000

pub returns-then-pay-le-MAX_PAY-clause-exactly : goal.returns-then-pay-le-MAX_PAY-clause-exactly
returns-then-pay-le-MAX_PAY-clause-exactly c = search rules steps 60000

pub returns-then-pay-le-MAX_PAY-clause-value : goal.returns-then-pay-le-MAX_PAY-clause-value
returns-then-pay-le-MAX_PAY-clause-value c = search rules steps 60000

pub returns-else-start-end-clause-exactly : goal.returns-else-start-end-clause-exactly
returns-else-start-end-clause-exactly c = search rules steps 60000
