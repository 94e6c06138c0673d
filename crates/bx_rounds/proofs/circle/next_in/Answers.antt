use Rattle.std.proofs.Common.{rules}
use Rattle.bx_rounds.proofs.circle.next_in.Goals as goal

pub returns-then-at-size : goal.returns-then-at-size
returns-then-at-size c = search rules steps 60000
