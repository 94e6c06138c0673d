use Rattle.std.proofs.Common.{sym}
use Rattle.bx_dist.proofs.WalkTests.{avoids_rest}
use Rattle.bx_dist.proofs.path.avoids.Goals as goal

pub returns-then-place-other : goal.returns-then-place-other
returns-then-place-other c = (
  λ h. cc,
  λ a. absurd (((avoids_rest c.args.line.now c.args.other c.loop-step.place c.args.walk.now c.loop-step.step-index c.loop-step-test.true).0 (c.loop-step.invariant.1 a)).0 (sym c.if-place-other.true)),
)
