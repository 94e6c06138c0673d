use Rattle.std.proofs.Common.{rules}
use Rattle.bx_far.proofs.far.Far.in_maintenance.Goals as goal

pub returns : goal.returns
returns c = search rules steps 60000
