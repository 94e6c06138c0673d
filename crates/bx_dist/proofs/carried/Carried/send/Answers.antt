use Rattle.std.proofs.Common.{◌≡◌, [], drop, refl, sym, ◌∙◌, ap, subst, arith}
use Rattle.std.proofs.lemmas.List.{drop_all}
use Rattle.bx_line.specs.Flows.{Flow, IsFlow, flow_of}
use Rattle.bx_dist.specs.Sending.{after_walk}
use Rattle.bx_dist.specs.Inside.{CanTakeAll}
use Rattle.bx_dist.proofs.Sending.{takes_path, sent_is_flow, units_same, next_step, sent_is}
use Rattle.bx_dist.proofs.carried.Carried.send.Goals as goal

pub loop-step-init : goal.loop-step-init
loop-step-init c =
    record {
      can = rw c.walk-step-items.ensures (takes_path c.args.line.now c.places-places.ensures.limits c.args.self.now c.requires.flow c.args.dist.now.walk c.requires.path c.requires.room).can;
      whole = refl;
    }

pub take-requires : goal.take-requires
take-requires c =
    let next = next_step c.walk-step-items.result.now c.loop-step.step-index c.loop-step-test.true in
    (subst (CanTakeAll c.loop-step.self) next c.loop-step.invariant.can).0

pub loop-step-preserved : goal.loop-step-preserved
loop-step-preserved c =
    let next = next_step c.walk-step-items.result.now c.loop-step.step-index c.loop-step-test.true in
    record {
      can = rw c.take.ensures (subst (CanTakeAll c.loop-step.self) next c.loop-step.invariant.can).1;
      whole = rw c.take.ensures (ap (after_walk c.loop-step.self) (sym next) ∙ c.loop-step.invariant.whole);
    }

pub overflow_add-self : goal.overflow_add-self
overflow_add-self c =
    let items = c.walk-step-items.result.now in
    let none : drop c.loop-step.step-index items ≡ [] = drop_all c.loop-step.step-index items c.loop-step-test.false in
    let whole = ap (after_walk c.loop-step.self) (sym none) ∙ c.loop-step.invariant.whole in
    omega (arith, ap (λ (f : Flow). f.units) (c.self.view_is ∙ whole), units_same c.args.self.now items, c.requires.room)

pub returns-clause-sent : goal.returns-clause-sent
returns-clause-sent c =
    let items = c.walk-step-items.result.now in
    let none : drop c.loop-step.step-index items ≡ [] = drop_all c.loop-step.step-index items c.loop-step-test.false in
    let whole = ap (after_walk c.loop-step.self) (sym none) ∙ c.loop-step.invariant.whole in
    let walk = ap (after_walk c.args.self.now) c.walk-step-items.ensures in
    sent_is c.args.self.now (flow_of c.self.inside.accepted.items c.self.inside.idle.items c.self.inside.units) c.args.dist.now.walk (c.self.view_is ∙ (whole ∙ walk))

pub returns-clause-flow : goal.returns-clause-flow
returns-clause-flow c =
    subst (IsFlow c.args.line.now) (sym (returns-clause-sent c)) (sent_is_flow c.args.line.now c.places-places.ensures.limits c.args.self.now c.requires.flow c.args.dist.now.walk c.requires.path c.requires.room)
