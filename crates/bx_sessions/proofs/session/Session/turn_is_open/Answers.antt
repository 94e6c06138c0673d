use Rattle.std.proofs.Common.{rules}
use Rattle.bx_sessions.proofs.session.Session.turn_is_open.Goals as goal

pub returns-in-InTurn : goal.returns-in-InTurn
returns-in-InTurn c = search rules steps 60000
