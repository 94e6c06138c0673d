use Rattle.std.proofs.Common.{inr}
use Rattle.bx_heap.proofs.frontier.Frontier.take_step.Goals as goal

pub returns-in_ok-reach : goal.returns-in_ok-reach
returns-in_ok-reach c =
    inr (c.is_there.ensures.0 c.if-is_there.true, c.in_ok-reach.ensures c.args.part c.args.carried.now)
