use Rattle.std.proofs.Common.{rules}
use Rattle.bx_day_openings.proofs.sockets.accepted_at.Goals as goal

pub returns : goal.returns
returns g c = search rules steps 1000000
