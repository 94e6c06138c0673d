use Rattle.std.proofs.Common.{rules}
use Rattle.bx_calls.proofs.net_call.NetCall.offered.Goals as goal

pub returns-clause-call : goal.returns-clause-call
returns-clause-call c = search rules steps 60000
