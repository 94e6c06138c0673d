use Rattle.std.proofs.Common.{arith, inl, inr}
use Rattle.bx_line_world.proofs.Stepping.{none_sliced, sliced_more}
use Rattle.bx_line_world.proofs.line.Line.serve.Goals as goal

pub loop-slices-init : goal.loop-slices-init
loop-slices-init g c = record { few = omega arith; so_far = none_sliced c.args.until c.args.in_turn c.args.self.now }

pub loop-slices-preserved : goal.loop-slices-preserved
loop-slices-preserved g c = record {
  few = omega (arith, c.loop-slices-test.true);
  so_far = sliced_more c.loop-slices.invariant.so_far c.if-serve_once.ensures.1;
}

pub returns-then-serve_once : goal.returns-then-serve_once
returns-then-serve_once g c = record {
  count = c.loop-slices.slices;
  before = c.loop-slices.self;
  sliced = c.loop-slices.invariant.so_far;
  shown = c.if-serve_once.ensures.0;
  looked = c.if-serve_once.ensures.1;
  over = inl c.if-serve_once.ensures.2;
}

pub returns : goal.returns
returns g c = record {
  count = c.loop-slices.slices;
  before = c.loop-slices.self;
  sliced = c.loop-slices.invariant.so_far;
  shown = c.elapse.ensures.0;
  looked = c.elapse.ensures.1;
  over = inr (omega (arith, c.loop-slices.invariant.few, c.loop-slices-test.false));
}
