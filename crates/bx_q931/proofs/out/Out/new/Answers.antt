use Rattle.std.proofs.Common.{arith}
use Rattle.std.proofs.lemmas.Grind.{common_steps}
use Rattle.bx_q931.proofs.out.Out.new.Goals as goal

pub returns-then-reference-eq0-clause-exactly : goal.returns-then-reference-eq0-clause-exactly
returns-then-reference-eq0-clause-exactly c = grind (arith, common_steps) steps 60000
