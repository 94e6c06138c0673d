use Rattle.std.proofs.Common.{rules}
use Rattle.bx_base.proofs.channel_set.ChannelSet.has.Goals as goal

pub returns : goal.returns
returns c = search rules steps 60000
