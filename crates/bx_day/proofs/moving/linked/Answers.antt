use Rattle.std.proofs.Common.{arith, rules}
use Rattle.std.proofs.lemmas.Grind.{common_steps}
use Rattle.bx_day.proofs.moving.linked.Goals as goal

pub returns-in-Unoffered : goal.returns-in-Unoffered
returns-in-Unoffered c = grind (arith, common_steps) steps 400000

pub returns-in-OnCall : goal.returns-in-OnCall
returns-in-OnCall c = grind (arith, common_steps) steps 400000

pub returns-in_default : goal.returns-in_default
returns-in_default c = search rules steps 400000
