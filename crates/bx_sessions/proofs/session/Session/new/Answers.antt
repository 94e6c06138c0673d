use Rattle.std.proofs.Common.{rules}
use Rattle.bx_sessions.proofs.session.Session.new.Goals as goal

pub returns-clause-turn : goal.returns-clause-turn
returns-clause-turn c = search rules steps 60000
