use Rattle.std.proofs.Common.{arith, rules}
use Rattle.std.proofs.lemmas.Grind.{common_steps}
use Rattle.bx_base.proofs.channel_set.ChannelSet.count.Goals as goal

pub returns-clause-value : goal.returns-clause-value
returns-clause-value c = search rules steps 400000

pub loop-n-preserved : goal.loop-n-preserved
loop-n-preserved c = grind (arith, common_steps) steps 60000
