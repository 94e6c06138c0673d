use Rattle.std.proofs.Common.{rules}
use Rattle.bx_q931.proofs.kind.Kind.name.Goals as goal

pub returns-in-Status : goal.returns-in-Status
returns-in-Status c = search rules steps 60000
