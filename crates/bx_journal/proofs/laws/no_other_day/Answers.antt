use Rattle.bx_journal.proofs.AnyDay.{never_other_day}
use Rattle.bx_journal.proofs.laws.no_other_day.Goals as goal

pub returns : goal.returns
returns c = λ wanted text any e. never_other_day wanted any text e
