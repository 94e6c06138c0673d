use Rattle.bx_line_world.proofs.Stepping.{kept_more}
use Rattle.bx_line_world.proofs.line.Line.keep.Goals as goal

pub loop-one-preserved : goal.loop-one-preserved
loop-one-preserved g c = kept_more c.args.self.now c.loop-one.self c.hear.new.self c.args.told.now c.loop-one.one-index c.one-item.result c.loop-one-test.true c.one-item.is c.loop-one.invariant c.hear.ensures
