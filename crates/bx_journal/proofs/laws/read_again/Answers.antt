use Rattle.bx_journal.proofs.ReadAgain.{journal_again, wanted_again}
use Rattle.bx_journal.proofs.laws.read_again.Goals as goal

pub returns-clause-own : goal.returns-clause-own
returns-clause-own c = λ head torn events day are t. journal_again head events torn day are t

pub returns-clause-wanted : goal.returns-clause-wanted
returns-clause-wanted c = λ wanted text torn events of t. wanted_again wanted text torn events of t
