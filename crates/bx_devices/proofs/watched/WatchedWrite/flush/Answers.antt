use Rattle.std.proofs.Common.{arith}
use Rattle.std.proofs.lemmas.Grind.{common_steps}
use Rattle.bx_devices.proofs.watched.WatchedWrite.flush.Goals as goal

pub returns-then-is_err-clause-faulted : goal.returns-then-is_err-clause-faulted
returns-then-is_err-clause-faulted g c = grind (arith, common_steps) steps 60000
