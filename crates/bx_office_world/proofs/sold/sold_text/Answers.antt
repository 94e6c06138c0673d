use Rattle.std.proofs.Common.{◌≡◌, ◌<◌, ◌+◌, ◌++◌, ◌∙◌, ℕ, Bool, sym, ap, length, arith, if◌then◌else◌}
use Rattle.bx_office_world.specs.Sold.{answer_line, unoffered_line, sold_text}
use Rattle.bx_office_world.proofs.SoldLines.{after_one_offered, after_one_unoffered}
use Rattle.bx_office_world.proofs.sold.sold_text.Goals as goal
use Rattle.bx_office_world.proofs.sold.sold_text.Goals.{then-is_offered+in_ok-push_line+then-is_accepted, then-is_offered+in_ok-push_line+else-is_accepted, else-is_offered+in_ok-push_unoffered}

pub loop-index-preserved : goal.loop-index-preserved
loop-index-preserved c =
    let wanted = c.args.wanted.now in
    let answers = c.args.answers.now in
    let i = c.loop-index.index in
    let l = c.loop-index in
    let terms = c.args.terms in
    let text = l.text.items in
    let whole = sold_text terms c.args.rows wanted answers in
    let inside : i < length wanted = omega (arith, c.loop-index-test.true, l.auto.index-end, c.len-index-end.ensures.count) in
    let row : c.from-row.result + 1 ≡ i + 1 = ap (λ (n : ℕ). n + 1) c.from-row.ensures in
    let booking = c.nth-booking.result in
    let at = sym c.nth-booking.ensures.value in
    elim c.if-is_offered.branch [
      | then-is_offered+in_ok-push_line+then-is_accepted w ↦
          let answer = w.answer_at-answer.result in
          let is = sym c.is_offered.ensures ∙ w.if-is_offered.true in
          let sold = sym w.is_accepted.ensures ∙ w.if-is_accepted.true in
          let line = w.in_ok-push_line.ensures ∙ ap (λ (n : ℕ). text ++ answer_line n booking answer l.place) row in
          rw (w.text-is, w.place-is, w.told-is) (record {
            text = after_one_offered terms wanted i inside (i + 1) l.place l.told answers booking answer (l.place + 1) text w.push_line.new.text.items whole at is w.answer_at-answer.ensures
                (ap (λ (b : Bool). if b then l.place + 1 else l.place) sold) l.invariant.text line;
            place = omega (arith, l.invariant.place);
            told = omega (arith, l.invariant.told);
          })
      | then-is_offered+in_ok-push_line+else-is_accepted w ↦
          let answer = w.answer_at-answer.result in
          let is = sym c.is_offered.ensures ∙ w.if-is_offered.true in
          let unsold = sym w.is_accepted.ensures ∙ w.if-is_accepted.false in
          let line = w.in_ok-push_line.ensures ∙ ap (λ (n : ℕ). text ++ answer_line n booking answer l.place) row in
          rw (w.text-is, w.place-is, w.told-is) (record {
            text = after_one_offered terms wanted i inside (i + 1) l.place l.told answers booking answer l.place text w.push_line.new.text.items whole at is w.answer_at-answer.ensures
                (ap (λ (b : Bool). if b then l.place + 1 else l.place) unsold) l.invariant.text line;
            place = omega (arith, l.invariant.place);
            told = omega (arith, l.invariant.told);
          })
      | else-is_offered+in_ok-push_unoffered w ↦
          let is = sym c.is_offered.ensures ∙ w.if-is_offered.false in
          let line = w.in_ok-push_unoffered.ensures ∙ ap (λ (n : ℕ). text ++ unoffered_line n terms booking) row in
          rw (w.text-is, w.place-is, w.told-is) (record {
            text = after_one_unoffered terms wanted i inside (i + 1) l.place l.told answers booking text w.push_unoffered.new.text.items whole at is l.invariant.text line;
            place = omega (arith, l.invariant.place);
            told = omega (arith, l.invariant.told);
          })
    ]
