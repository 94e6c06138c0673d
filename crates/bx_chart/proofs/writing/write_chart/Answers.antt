use Rattle.std.proofs.Common.{rules}
use Rattle.bx_chart.proofs.writing.write_chart.Goals as goal

pub returns-clause-refused : goal.returns-clause-refused
returns-clause-refused g c = (search rules, search rules)
