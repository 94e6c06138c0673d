use Rattle.std.proofs.Common.{rules}
use Rattle.bx_day_openings.proofs.progress.ShownEnd.hear.Goals as goal

pub returns-clause-sent : goal.returns-clause-sent
returns-clause-sent g c = search rules steps 60000

pub returns-clause-text : goal.returns-clause-text
returns-clause-text g c = search rules steps 60000
