use Rattle.std.proofs.Common.{rules}
use Rattle.bx_colour.proofs.sweep.lowest_free_at.Goals as goal

pub loop-n-preserved : goal.loop-n-preserved
loop-n-preserved c = search rules steps 400000

pub returns-clause-none : goal.returns-clause-none
returns-clause-none c = search rules steps 400000

pub returns-in-loop-n-clause-free : goal.returns-in-loop-n-clause-free
returns-in-loop-n-clause-free c = search rules steps 60000
