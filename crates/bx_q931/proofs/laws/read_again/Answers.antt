use Rattle.bx_q931.proofs.PartsLemmas.{written_again, has_parts}
use Rattle.bx_q931.proofs.laws.read_again.Goals as goal

pub returns-clause-read : goal.returns-clause-read
returns-clause-read c = written_again

pub returns-clause-parts : goal.returns-clause-parts
returns-clause-parts c = has_parts
