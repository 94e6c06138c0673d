use Rattle.std.proofs.Common.{arith}
use Rattle.std.proofs.lemmas.Grind.{common_steps}
use Rattle.bx_far.proofs.script.Script.policy_of.Goals as goal

pub loop-row-preserved : goal.loop-row-preserved
loop-row-preserved c = grind (arith, common_steps) steps 60000

pub returns : goal.returns
returns c = grind (arith, common_steps) steps 60000
