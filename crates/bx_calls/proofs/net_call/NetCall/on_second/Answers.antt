use Rattle.std.proofs.Common.{arith}
use Rattle.std.proofs.lemmas.Grind.{common_steps}
use Rattle.bx_calls.proofs.net_call.NetCall.on_second.Goals as goal

pub returns-else-end-moment : goal.returns-else-end-moment
returns-else-end-moment c = grind (arith, common_steps) steps 2000000
