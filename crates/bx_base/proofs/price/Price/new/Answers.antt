use Rattle.std.proofs.Common.{rules}
use Rattle.bx_base.proofs.price.Price.new.Goals as goal

pub invariant_of-result : goal.invariant_of-result
invariant_of-result c = search rules steps 60000

pub returns-then-amount-le-MAX_TOTAL-clause-exactly : goal.returns-then-amount-le-MAX_TOTAL-clause-exactly
returns-then-amount-le-MAX_TOTAL-clause-exactly c = search rules steps 60000

pub returns-else-moment-lt-MAX_MOMENT-clause-exactly : goal.returns-else-moment-lt-MAX_MOMENT-clause-exactly
returns-else-moment-lt-MAX_MOMENT-clause-exactly c = search rules steps 60000
