use Rattle.std.proofs.Common.{arith}
use Rattle.std.proofs.lemmas.Grind.{common_steps}
use Rattle.bx_check.proofs.sums.sums_of.Goals as goal

pub loop-price-init : goal.loop-price-init
loop-price-init c = grind (arith, common_steps) steps 60000
