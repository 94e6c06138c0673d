use Rattle.std.proofs.Common.{rules}
use Rattle.bx_lapd.proofs.data_link.DataLink.expire.Goals as goal

pub returns-in-TimerRecovery : goal.returns-in-TimerRecovery
returns-in-TimerRecovery c = search rules steps 250000
