use Rattle.std.proofs.Common.{sym, subst, rules}
use Rattle.bx_line.specs.Flows.{IsFlow}
use Rattle.bx_dist.proofs.Sending.{empty_is_flow}
use Rattle.bx_dist.proofs.carried.Carried.empty.Goals as goal

pub returns-clause-value : goal.returns-clause-value
returns-clause-value c = search rules

pub returns-clause-flow : goal.returns-clause-flow
returns-clause-flow c = subst (IsFlow c.args.line.now) (sym (returns-clause-value c)) (empty_is_flow c.args.line.now c.rows-rows.ensures.limits)
