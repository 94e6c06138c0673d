use Rattle.std.proofs.Common.{◌≡◌, [], length, refl, inr, sym, ap, ◌∙◌, subst, arith, rules}
use Rattle.bx_live.specs.Runs.{Between}
use Rattle.bx_market.specs.Answers.{AreToldOfMemory}
use Rattle.bx_market.specs.Deals.{Answered, sold_of}
use Rattle.bx_market.specs.Stands.{Within, Filing}
use Rattle.bx_market.proofs.Batches.{none_of_memory}
use Rattle.bx_market.proofs.Steps.{one_asked}
use Rattle.bx_market.proofs.offering.tell_of_memory.Goals as goal

pub returns : goal.returns
returns g c channels tag =
    let d = c.args.exchange.now in
    let b = c.args.batch.now in
    let l = c.loop-index in
    let e : c.deref.result.now ≡ l.answers.items = search rules in
    let now = c.moment-moment.ensures.value in
    let count : length l.answers.items ≡ length b = omega (arith, l.invariant.len, c.loop-index-test.false, c.len-index-end.ensures.count) in
    let told : AreToldOfMemory d b l.answers.items = record {
      one_each = count;
      late = λ i lt late. l.invariant.late i (omega (arith, lt, count)) (omega (arith, late, now));
      memory = λ i lt later. l.invariant.memory i (omega (arith, lt, count)) (omega (arith, later, now));
    } in
    one_asked (Filing d d tag b []) (Within (Between d)) (Answered c.deref.result.now) c.answer.ensures
    (refl, ap (sold_of b) e ∙ none_of_memory d b l.answers.items told, inr (subst (AreToldOfMemory d b) (sym e) told), refl) refl
