use Rattle.std.proofs.Common.{rules}
use Rattle.bx_calls.proofs.user_call.UserCall.calling.Goals as goal

pub returns-clause-call : goal.returns-clause-call
returns-clause-call c = search rules steps 60000
