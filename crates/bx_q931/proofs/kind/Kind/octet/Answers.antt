use Rattle.std.proofs.Common.{rules}
use Rattle.bx_q931.proofs.kind.Kind.octet.Goals as goal

pub returns-in-Connect : goal.returns-in-Connect
returns-in-Connect c = search rules steps 60000
