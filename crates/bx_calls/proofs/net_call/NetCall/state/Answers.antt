use Rattle.std.proofs.Common.{rules}
use Rattle.bx_calls.proofs.net_call.NetCall.state.Goals as goal

pub returns-in-CallPresent : goal.returns-in-CallPresent
returns-in-CallPresent c = search rules steps 60000
