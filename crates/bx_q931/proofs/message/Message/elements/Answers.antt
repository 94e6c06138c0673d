use Rattle.std.proofs.Common.{rules}
use Rattle.bx_q931.proofs.message.Message.elements.Goals as goal

pub returns : goal.returns
returns c = search rules steps 60000
