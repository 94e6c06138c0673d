use Rattle.std.proofs.Common.{rules, ◌-◌, ap, arith}
use Rattle.std.proofs.lemmas.Bool.{lt-ltb}
use Rattle.bx_line.specs.Flows.{Flow}
use Rattle.bx_line.proofs.Crossings.{crosses_from_flow, flow_from_crosses}
use Rattle.bx_dist.proofs.carried.Carried.belongs_to.Goals as goal

pub returns-then-from-crossing : goal.returns-then-from-crossing
returns-then-from-crossing c = (
  λ h. cc,
  λ f.
      let crosses = (crosses_from_flow c.args.line.now c.args.self.now c.places-gap-end.ensures.limits f).crosses (c.loop-gap.gap - 1) (omega arith) in
      absurd (c.if-from-crossing.true (omega (arith, crosses, c.idle.ensures, c.crossing.ensures.count, ap (λ (w : Flow). w.units) c.self.view_is))),
)

pub returns-then-places-gt1 : goal.returns-then-places-gt1
returns-then-places-gt1 c = (
  λ h. flow_from_crosses c.args.line.now c.args.self.now c.places.ensures.limits (record {
    sized = c.is_sized.ensures.0 c.if-not-is_sized.false;
    crosses = λ v b. c.loop-gap.invariant v (omega arith);
    no_gap = λ few. absurd (omega (arith, few));
  }),
  λ f. lt-ltb 1 c.places.result c.if-places-gt1.true,
)

pub loop-gap-preserved : goal.loop-gap-preserved
loop-gap-preserved c = search rules steps 2000000

pub returns-else-places-gt1 : goal.returns-else-places-gt1
returns-else-places-gt1 c = search rules steps 400000
