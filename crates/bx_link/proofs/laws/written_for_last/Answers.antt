use Rattle.bx_link.proofs.Onward.{written_law}
use Rattle.bx_link.proofs.laws.written_for_last.Goals as goal

pub returns : goal.returns
returns c = written_law
