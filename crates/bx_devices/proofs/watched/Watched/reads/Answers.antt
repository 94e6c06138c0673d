use Rattle.std.proofs.Common.{rules}
use Rattle.bx_devices.proofs.watched.Watched.reads.Goals as goal

pub returns : goal.returns
returns g c = search rules steps 60000
