use Rattle.std.proofs.Common.{rules}
use Rattle.bx_rounds.proofs.marks.is_tight.Goals as goal

pub returns : goal.returns
returns c = search rules steps 400000
