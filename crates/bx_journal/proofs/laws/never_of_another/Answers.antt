use Rattle.bx_journal.proofs.OneText.{own_head, older_none, known_rules}
use Rattle.bx_journal.proofs.laws.never_of_another.Goals as goal

pub returns-clause-head : goal.returns-clause-head
returns-clause-head c = λ p q torn events r p_are q_are p_day are t e. own_head p q torn events r p_are q_are p_day are t e

pub returns-clause-older : goal.returns-clause-older
returns-clause-older c = λ wanted day version following some older. older_none wanted day version following some older

pub returns-clause-rules : goal.returns-clause-rules
returns-clause-rules c = λ wanted rules following small other older. known_rules wanted rules following small other older
