use Rattle.std.proofs.Common.{rules}
use Rattle.bx_text.proofs.records.read_next.Goals as goal

pub returns-clause-err : goal.returns-clause-err
returns-clause-err g c = search rules steps 2000000
