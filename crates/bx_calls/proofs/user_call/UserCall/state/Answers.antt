use Rattle.std.proofs.Common.{rules}
use Rattle.bx_calls.proofs.user_call.UserCall.state.Goals as goal

pub returns-in-ConnectRequest : goal.returns-in-ConnectRequest
returns-in-ConnectRequest c = search rules steps 60000
