use Rattle.std.proofs.Common.{rules}
use Rattle.bx_day_openings.proofs.sockets.connected_at.Goals as goal

pub returns-in-Err : goal.returns-in-Err
returns-in-Err g c = search rules steps 1000000
