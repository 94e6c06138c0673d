use Rattle.std.proofs.Common.{rules}
use Rattle.bx_far.proofs.script.Script.read.Goals as goal

pub returns-clause-ok : goal.returns-clause-ok
returns-clause-ok c = search rules steps 400000

pub returns-clause-err : goal.returns-clause-err
returns-clause-err c = search rules steps 400000
