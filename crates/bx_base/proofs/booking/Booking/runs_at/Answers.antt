use Rattle.std.proofs.Common.{rules}
use Rattle.bx_base.proofs.booking.Booking.runs_at.Goals as goal

pub returns-then-self-moment : goal.returns-then-self-moment
returns-then-self-moment c = search rules steps 60000

pub returns-else-self-moment : goal.returns-else-self-moment
returns-else-self-moment c = search rules steps 60000
