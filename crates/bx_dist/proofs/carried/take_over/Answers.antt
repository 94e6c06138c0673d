use Rattle.std.proofs.Common.{◌≡◌, arith}
use Rattle.bx_dist.proofs.carried.take_over.Goals as goal

pub returns-clause-each : goal.returns-clause-each
returns-clause-each c =
    let all : c.loop-gap.gap ≡ c.args.arc.to = omega (arith, c.loop-gap.auto.gap-end) in
    λ gap h. rw all at (c.loop-gap.invariant.each gap h)
