use Rattle.std.proofs.Common.{rules}
use Rattle.bx_q931.proofs.message.Message.channel.Goals as goal

pub returns-in-None : goal.returns-in-None
returns-in-None c = search rules steps 60000
