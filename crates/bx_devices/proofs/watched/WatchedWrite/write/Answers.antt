use Rattle.std.proofs.Common.{arith, rules}
use Rattle.std.proofs.lemmas.Grind.{common_steps}
use Rattle.bx_devices.proofs.watched.WatchedWrite.write.Goals as goal

pub returns-in-Ok-eq0-clause-faulted : goal.returns-in-Ok-eq0-clause-faulted
returns-in-Ok-eq0-clause-faulted g c = grind (arith, common_steps) steps 60000

pub returns-in-Ok-eq0-clause-bytes : goal.returns-in-Ok-eq0-clause-bytes
returns-in-Ok-eq0-clause-bytes g c = search rules steps 60000

pub returns-else-not-is_empty-clause-bytes : goal.returns-else-not-is_empty-clause-bytes
returns-else-not-is_empty-clause-bytes g c = search rules steps 60000

pub returns-clause-bytes : goal.returns-clause-bytes
returns-clause-bytes g c = search rules steps 60000

pub returns-in-Err-clause-bytes : goal.returns-in-Err-clause-bytes
returns-in-Err-clause-bytes g c = search rules steps 60000
