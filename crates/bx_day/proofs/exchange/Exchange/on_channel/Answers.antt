use Rattle.std.proofs.Common.{arith}
use Rattle.std.proofs.lemmas.Grind.{common_steps}
use Rattle.bx_day.proofs.exchange.Exchange.on_channel.Goals as goal

pub returns-in-OnCall : goal.returns-in-OnCall
returns-in-OnCall c = grind (arith, common_steps) steps 400000
