use Rattle.std.proofs.Common.{arith}
use Rattle.std.proofs.lemmas.Grind.{common_steps}
use Rattle.bx_calls.proofs.net_call.NetCall.on_timer.Goals as goal

pub returns-in-Enquiring-Once-default : goal.returns-in-Enquiring-Once-default
returns-in-Enquiring-Once-default c = grind (arith, common_steps) steps 120000
