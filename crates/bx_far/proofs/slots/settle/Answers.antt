use Rattle.std.proofs.Common.{rules}
use Rattle.bx_far.proofs.slots.settle.Goals as goal

pub returns-in-Broken-clause-maintenance : goal.returns-in-Broken-clause-maintenance
returns-in-Broken-clause-maintenance c = search rules steps 60000
