use Rattle.std.proofs.Common.{sym, ap, ◌∙◌}
use Rattle.bx_q931.specs.Values.{first_in}
use Rattle.bx_q931.proofs.ValueLemmas.{first_here, first_other_codeset, first_other, first_none}
use Rattle.bx_q931.proofs.message.Message.first.Goals as goal
use Rattle.bx_q931.proofs.message.Message.first.Goals.{else-element-eq0-via-then-element-eq0+else-element-id, else-element-eq0-via-else-element-eq0}

pub returns-then-element-id : goal.returns-then-element-id
returns-then-element-id c = sym (first_here c.args.id _ _ c.if-element-eq0.true c.if-element-id.true) ∙ (sym (ap (first_in c.args.id) c.in-Some.ensures.steps) ∙ c.loop-element.invariant)

pub loop-element-preserved : goal.loop-element-preserved
loop-element-preserved c =
    elim c.else-element-eq0.branch [
      | else-element-eq0-via-then-element-eq0+else-element-id w ↦ first_other c.args.id _ _ w.if-element-id.false ∙ (sym (ap (first_in c.args.id) c.in-Some.ensures.steps) ∙ c.loop-element.invariant)
      | else-element-eq0-via-else-element-eq0 w ↦ first_other_codeset c.args.id _ _ w.if-element-eq0.false ∙ (sym (ap (first_in c.args.id) c.in-Some.ensures.steps) ∙ c.loop-element.invariant)
    ]

pub returns : goal.returns
returns c = sym (first_none c.args.id _ c.in-None.ensures.steps.0) ∙ c.loop-element.invariant
