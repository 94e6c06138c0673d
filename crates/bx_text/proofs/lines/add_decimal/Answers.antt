use Rattle.std.proofs.Common.{rules}
use Rattle.bx_text.proofs.lines.add_decimal.Goals as goal

pub returns-clause-items : goal.returns-clause-items
returns-clause-items c = search rules steps 60000
