use Rattle.bx_sales.proofs.OneDay.{one_day}
use Rattle.bx_sales.proofs.laws.one_day_by_journal.Goals as goal

pub returns : goal.returns
returns c channels row_on events old new new' through through' = one_day channels row_on events old new new' through through'
