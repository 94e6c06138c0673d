use Rattle.std.proofs.Common.{arith, rules}
use Rattle.std.proofs.lemmas.Grind.{common_steps}
use Rattle.bx_calls.proofs.net_call.NetCall.on_progress.Goals as goal

pub returns-in-CallPresent-CallProceeding-2 : goal.returns-in-CallPresent-CallProceeding-2
returns-in-CallPresent-CallProceeding-2 c = grind (arith, common_steps) steps 60000

pub returns-in-CallPresent-Connect : goal.returns-in-CallPresent-Connect
returns-in-CallPresent-Connect c = search rules steps 400000

pub returns-in-CallPresent-Alerting : goal.returns-in-CallPresent-Alerting
returns-in-CallPresent-Alerting c = search rules steps 400000
