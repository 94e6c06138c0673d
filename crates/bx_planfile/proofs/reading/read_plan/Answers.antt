use Rattle.std.proofs.Common.{rules}
use Rattle.bx_planfile.proofs.PlanLaws.{is_within_limits, is_found, is_only}
use Rattle.bx_planfile.proofs.reading.read_plan.Goals as goal

pub returns-clause-limits : goal.returns-clause-limits
returns-clause-limits c = is_within_limits c.args.bytes.now c.plan_of.result c.plan_of.ensures.value

pub returns-clause-found : goal.returns-clause-found
returns-clause-found c = is_found c.args.bytes.now c.plan_of.result c.plan_of.ensures.value

pub returns-clause-only : goal.returns-clause-only
returns-clause-only c = is_only c.args.bytes.now c.plan_of.result c.plan_of.ensures.value

pub returns-clause-fault : goal.returns-clause-fault
returns-clause-fault c = search rules steps 60000

pub returns-clause-memory : goal.returns-clause-memory
returns-clause-memory c = search rules steps 60000
