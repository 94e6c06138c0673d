use Rattle.std.proofs.Common.{arith, inl, inr}
use Rattle.bx_line_world.proofs.Stepping.{none_looked, looked_more}
use Rattle.bx_line_world.proofs.line.Line.see.Goals as goal

pub loop-looks-init : goal.loop-looks-init
loop-looks-init g c = record { few = omega arith; so_far = none_looked c.args.until c.args.self.now }

pub loop-looks-preserved : goal.loop-looks-preserved
loop-looks-preserved g c = record {
  few = omega (arith, c.loop-looks-test.true);
  so_far = looked_more c.loop-looks.invariant.so_far c.if-look_once.ensures.1;
}

pub returns-then-look_once : goal.returns-then-look_once
returns-then-look_once g c = record {
  count = c.loop-looks.looks;
  before = c.loop-looks.self;
  looked = c.loop-looks.invariant.so_far;
  shown = c.if-look_once.ensures.0;
  timed = c.if-look_once.ensures.1;
  over = inl c.if-look_once.ensures.2;
}

pub returns : goal.returns
returns g c = record {
  count = c.loop-looks.looks;
  before = c.loop-looks.self;
  looked = c.loop-looks.invariant.so_far;
  shown = c.elapse.ensures.0;
  timed = c.elapse.ensures.1;
  over = inr (omega (arith, c.loop-looks.invariant.few, c.loop-looks-test.false));
}
