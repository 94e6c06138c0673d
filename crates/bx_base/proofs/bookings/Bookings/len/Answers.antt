use Rattle.std.proofs.Common.{rules}
use Rattle.bx_base.proofs.bookings.Bookings.len.Goals as goal

pub returns-clause-count : goal.returns-clause-count
returns-clause-count c = search rules steps 60000
