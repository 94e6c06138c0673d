use Rattle.std.proofs.Common.{rules}
use Rattle.bx_cases.proofs.failing.Failing.new.Goals as goal

pub returns-clause-calls : goal.returns-clause-calls
returns-clause-calls g c = search rules steps 60000
