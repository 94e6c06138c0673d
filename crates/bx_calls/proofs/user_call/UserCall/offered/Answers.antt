use Rattle.std.proofs.Common.{rules}
use Rattle.bx_calls.proofs.user_call.UserCall.offered.Goals as goal

pub returns : goal.returns
returns c = search rules steps 60000
