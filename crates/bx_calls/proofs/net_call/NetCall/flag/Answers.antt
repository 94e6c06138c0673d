use Rattle.std.proofs.Common.{rules}
use Rattle.bx_calls.proofs.net_call.NetCall.flag.Goals as goal

pub returns-in-Outward : goal.returns-in-Outward
returns-in-Outward c = search rules steps 60000
