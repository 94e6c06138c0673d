use Rattle.bx_journal.proofs.OneText.{one}
use Rattle.bx_journal.proofs.laws.one_text.Goals as goal

pub returns : goal.returns
returns c = λ p q a b p_are q_are p_day q_day a_are b_are same. one p q a b p_are q_are p_day q_day a_are b_are same
