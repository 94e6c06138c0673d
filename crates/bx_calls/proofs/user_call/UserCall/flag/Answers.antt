use Rattle.std.proofs.Common.{rules}
use Rattle.bx_calls.proofs.user_call.UserCall.flag.Goals as goal

pub returns-in-Calling : goal.returns-in-Calling
returns-in-Calling c = search rules steps 60000
