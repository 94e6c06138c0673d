use Rattle.std.proofs.Common.{rules}
use Rattle.bx_devices.proofs.watched.Watched.new.Goals as goal

pub returns-clause-faulted : goal.returns-clause-faulted
returns-clause-faulted g c = search rules steps 60000
