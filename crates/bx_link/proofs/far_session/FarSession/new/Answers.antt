use Rattle.std.proofs.Common.{rules}
use Rattle.bx_link.proofs.far_session.FarSession.new.Goals as goal

pub returns : goal.returns
returns c = search rules steps 60000
