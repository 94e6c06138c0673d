use Rattle.std.proofs.Common.{arith}
use Rattle.std.proofs.lemmas.Grind.{common_steps}
use Rattle.bx_day.proofs.scheduling.booking_due.Goals as goal

pub returns-in-Unoffered-clause-value : goal.returns-in-Unoffered-clause-value
returns-in-Unoffered-clause-value c = grind (arith, common_steps) steps 60000

pub returns-in-Unoffered-2-clause-value : goal.returns-in-Unoffered-2-clause-value
returns-in-Unoffered-2-clause-value c = grind (arith, common_steps) steps 60000
