use Rattle.bx_link.proofs.Told.{told_law}
use Rattle.bx_link.proofs.laws.all_is_written.Goals as goal

pub returns : goal.returns
returns c = told_law
