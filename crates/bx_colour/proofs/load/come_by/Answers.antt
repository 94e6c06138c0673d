use Rattle.std.proofs.Common.{arith}
use Rattle.bx_colour.proofs.LoadLemmas.{counted_most, come_before, come_up_to}
use Rattle.bx_colour.proofs.load.come_by.Goals as goal

pub returns-then-moments-count : goal.returns-then-moments-count
returns-then-moments-count c =
    let most = come_before c.args.moments.now c.loop-count.count c.args.moment c.requires.rising (omega (arith, c.loop-count-test.true)) (omega (arith, c.if-moments-count.true)) in
    omega (arith, most, c.loop-count.invariant)

pub loop-count-preserved : goal.loop-count-preserved
loop-count-preserved c = come_up_to c.args.moments.now c.loop-count.count c.args.moment c.requires.rising (omega (arith, c.loop-count-test.true)) (omega (arith, c.if-moments-count.false))

pub returns : goal.returns
returns c = omega (arith, counted_most c.args.moments.now c.args.moment, c.loop-count.invariant, c.loop-count-test.false)
