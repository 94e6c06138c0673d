use Rattle.std.proofs.Common.{rules}
use Rattle.bx_plan_commands.proofs.amending.write_amended.Goals as goal

pub returns-in-Ok-write_plan-clause-refused : goal.returns-in-Ok-write_plan-clause-refused
returns-in-Ok-write_plan-clause-refused g c = search rules steps 60000
