use Rattle.std.proofs.Common.{rules}
use Rattle.bx_q931.proofs.kind.Kind.of.Goals as goal

pub returns-in-110 : goal.returns-in-110
returns-in-110 c = search rules steps 60000
