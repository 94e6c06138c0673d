use Rattle.std.proofs.Common.{rules}
use Rattle.bx_link.proofs.far_session.FarSession.is_over.Goals as goal

pub returns : goal.returns
returns c = search rules steps 60000
