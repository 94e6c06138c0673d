use Rattle.std.proofs.Common.{rules}
use Rattle.bx_calls.proofs.net_call.NetCall.answered.Goals as goal

pub returns-clause-out : goal.returns-clause-out
returns-clause-out c = search rules steps 60000
