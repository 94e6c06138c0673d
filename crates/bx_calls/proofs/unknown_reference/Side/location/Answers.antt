use Rattle.std.proofs.Common.{rules}
use Rattle.bx_calls.proofs.unknown_reference.Side.location.Goals as goal

pub returns-in-User : goal.returns-in-User
returns-in-User c = search rules steps 60000
