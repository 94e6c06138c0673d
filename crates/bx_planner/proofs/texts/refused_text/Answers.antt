use Rattle.std.proofs.Common.{◌≡◌, ◌∙◌, ◌<◌, ℕ, length, true, false, Option, None, is_some, not, ap, sym, arith, rules}
use Rattle.std.proofs.lemmas.List.{get_or_default}
use Rattle.bx_base.specs.PlanParts.{parts_of}
use Rattle.bx_base.specs.Plans.{is_accepted}
use Rattle.bx_planner.proofs.Told.{lines_more, count_more, rows_same}
use Rattle.bx_planner.proofs.texts.refused_text.Goals as goal
use Rattle.bx_planner.proofs.texts.refused_text.Goals.{then-is_none+in_ok-add_refused, else-is_none}

pub loop-index-preserved : goal.loop-index-preserved
loop-index-preserved c =
    let plan = parts_of c.args.plan.now in
    let n = c.loop-index.index in
    let old = c.loop-index.invariant in
    elim c.if-is_none.branch [
      | then-is_none+in_ok-add_refused w ↦ (
          let out : is_accepted plan.assigned n ≡ false = search rules steps 1000000 in
          record {
            lines = rw w.text-is (lines_more plan n c.loop-index.text.items w.add_refused.new.text.items out old.lines w.in_ok-add_refused.ensures);
            count = rw w.refused-is (count_more plan n c.loop-index.refused out old.count);
            few = rw w.refused-is (omega (arith, old.few));
          })
      | else-is_none w ↦ (
          let inside : n < length plan.assigned = search rules steps 1000000 in
          let there = c.index.ensures ∙ get_or_default plan.assigned n c.index.result.now None inside in
          let taken : is_accepted plan.assigned n ≡ true = ap (λ (o : Option ℕ). is_some o) (sym there) ∙ (c.is_none.ensures ∙ ap not w.if-is_none.false) in
          let same = rows_same plan n taken in
          record {
            lines = rw (w.text-is, same) old.lines;
            count = rw (w.refused-is, same) old.count;
            few = rw w.refused-is (omega (arith, old.few));
          })
    ]
