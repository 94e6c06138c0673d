use Rattle.std.proofs.Common.{arith}
use Rattle.std.proofs.lemmas.Grind.{common_steps}
use Rattle.bx_plan_commands.proofs.planning.bookings_of.Goals as goal

pub returns-in-Err-ReadFailed-clause-unread : goal.returns-in-Err-ReadFailed-clause-unread
returns-in-Err-ReadFailed-clause-unread g c = grind (arith, common_steps) steps 60000
