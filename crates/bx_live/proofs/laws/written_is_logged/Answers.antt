use Rattle.bx_live.proofs.Onward.{written_law, filed_law}
use Rattle.bx_live.proofs.laws.written_is_logged.Goals as goal

pub returns-clause-written : goal.returns-clause-written
returns-clause-written c = written_law

pub returns-clause-filed : goal.returns-clause-filed
returns-clause-filed c = filed_law
