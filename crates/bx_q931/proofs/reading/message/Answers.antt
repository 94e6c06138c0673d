use Rattle.std.proofs.Common.{arith}
use Rattle.std.proofs.lemmas.Grind.{common_steps}
use Rattle.bx_q931.proofs.reading.message.Goals as goal

pub returns-then-first-ne-DISCRIMINATOR : goal.returns-then-first-ne-DISCRIMINATOR
returns-then-first-ne-DISCRIMINATOR c = grind (arith, common_steps) steps 60000
