use Rattle.std.proofs.Common.{rules}
use Rattle.bx_base.proofs.channel_set.ChannelSet.lowest_free.Goals as goal

pub returns-clause-none : goal.returns-clause-none
returns-clause-none c = search rules steps 60000

pub loop-n-preserved : goal.loop-n-preserved
loop-n-preserved c = search rules steps 400000
