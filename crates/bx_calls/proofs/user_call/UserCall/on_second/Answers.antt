use Rattle.std.proofs.Common.{rules}
use Rattle.bx_calls.proofs.user_call.UserCall.on_second.Goals as goal

pub returns-in-CallInitiated-false-default : goal.returns-in-CallInitiated-false-default
returns-in-CallInitiated-false-default c = search rules steps 400000
