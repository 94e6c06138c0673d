use Rattle.std.proofs.Common.{arith}
use Rattle.std.proofs.lemmas.Grind.{common_steps}
use Rattle.bx_day.proofs.quiet_seconds.tick_due.Goals as goal

pub returns-in-Unoffered : goal.returns-in-Unoffered
returns-in-Unoffered c = grind (arith, common_steps) steps 60000
