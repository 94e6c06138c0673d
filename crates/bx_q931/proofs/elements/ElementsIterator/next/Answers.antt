use Rattle.std.proofs.Common.{length, sym, ap, ◌∙◌, arith}
use Rattle.bx_q931.proofs.ItemLemmas.{whole_next}
use Rattle.bx_q931.proofs.PassLemmas.{left_element, left_locking, left_single, left_none}
use Rattle.bx_q931.proofs.elements.ElementsIterator.next.Goals as goal

pub invariant_of-self : goal.invariant_of-self
invariant_of-self c = (whole_next c.loop-item.self-inside.rest.now _ (sym c.in-Some.ensures) c.loop-item.invariant.whole).0

pub returns-then-item-ne9-clause-steps : goal.returns-then-item-ne9-clause-steps
returns-then-item-ne9-clause-steps c =
    rw c.unwrap_or-codeset.ensures
    (sym c.loop-item.invariant.same ∙ left_element c.loop-item.self-inside.locked c.loop-item.self-inside.single c.loop-item.self-inside.rest.now _ (sym c.in-Some.ensures) c.loop-item.invariant.whole c.if-item-ne9.true)

pub returns-then-item-ne9-clause-goes : goal.returns-then-item-ne9-clause-goes
returns-then-item-ne9-clause-goes c =
    let next = ap length (sym c.loop-item.invariant.same ∙ left_element c.loop-item.self-inside.locked c.loop-item.self-inside.single c.loop-item.self-inside.rest.now _ (sym c.in-Some.ensures) c.loop-item.invariant.whole c.if-item-ne9.true) in
    record { on = λ f. (tt, tt, omega (arith, next)); keeps = tt; rests = λ f. tt }

pub loop-item-preserved-then-item-lt8 : goal.loop-item-preserved-then-item-lt8
loop-item-preserved-then-item-lt8 c =
    record {
      whole = (whole_next c.loop-item.self-inside.rest.now _ (sym c.in-Some.ensures) c.loop-item.invariant.whole).0;
      same = rw c.max-self-inside.ensures (sym (left_locking c.loop-item.self-inside.locked c.loop-item.self-inside.single c.loop-item.self-inside.rest.now _ (sym c.in-Some.ensures) c.loop-item.invariant.whole c.if-item-ne9.false c.if-item-lt8.true) ∙ c.loop-item.invariant.same);
    }

pub loop-item-preserved : goal.loop-item-preserved
loop-item-preserved c =
    record {
      whole = (whole_next c.loop-item.self-inside.rest.now _ (sym c.in-Some.ensures) c.loop-item.invariant.whole).0;
      same = sym (left_single c.loop-item.self-inside.locked c.loop-item.self-inside.single c.loop-item.self-inside.rest.now _ (sym c.in-Some.ensures) c.loop-item.invariant.whole c.if-item-ne9.false c.if-item-lt8.false) ∙ c.loop-item.invariant.same;
    }

pub returns-clause-steps : goal.returns-clause-steps
returns-clause-steps c =
    let none = left_none c.loop-item.self-inside.locked c.loop-item.self-inside.single c.loop-item.self-inside.rest.now (sym c.in_default.ensures) c.loop-item.invariant.whole in
    (sym c.loop-item.invariant.same ∙ none, none)
