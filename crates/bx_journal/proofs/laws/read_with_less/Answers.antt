use Rattle.bx_journal.proofs.OneText.{with_less}
use Rattle.bx_journal.proofs.laws.read_with_less.Goals as goal

pub returns : goal.returns
returns c = λ head wanted left events is e. with_less head wanted left events is e
