use Rattle.bx_lapd.proofs.Worlds.{in_order_holds}
use Rattle.bx_lapd.proofs.laws.in_order.Goals as goal

pub returns : goal.returns
returns c = in_order_holds
