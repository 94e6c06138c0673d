use Rattle.std.proofs.Common.{arith}
use Rattle.std.proofs.lemmas.Grind.{common_steps}
use Rattle.bx_q931.proofs.encoding.copied.Goals as goal

pub returns : goal.returns
returns c = grind (arith, common_steps) steps 60000
