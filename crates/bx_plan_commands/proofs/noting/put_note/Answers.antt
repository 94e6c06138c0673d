use Rattle.std.proofs.Common.{◌≡◌, ◌+◌, Bool, true, List, ℕ, ◌++◌, Err, length, arith, sym, ap, subst, ◌∙◌}
use Rattle.std.specs.Prelude.{codes}
use Rattle.std.proofs.lemmas.Result.{err_from_is_err_and}
use Rattle.bx_base.specs.PlanParts.{parts_of}
use Rattle.bx_devices.specs.declared.octets.WriteFailed.{WriteFailed}
use Rattle.bx_text.proofs.GatheringSteps.{done, puts_then, puts_failed}
use Rattle.bx_text.specs.Gathering.{Gathers, held}
use Rattle.bx_plan_commands.proofs.NotedRows.{begun_here, begun_as_before, noted_here, noted_as_before, note_prefix}
use Rattle.bx_plan_commands.specs.Notes.{is_begun, is_too_short, row_text, note_below, note_end, note_text}
use Rattle.bx_plan_commands.proofs.noting.put_note.Goals as goal
use Rattle.bx_plan_commands.proofs.noting.put_note.Goals.{then-is_too_short+in_ok-put, else-is_too_short}

pub returns-in_err-put : goal.returns-in_err-put
returns-in_err-put g c =
    let plan = parts_of c.args.plan.now in
    let i = c.loop-index.index in
    let p = err_from_is_err_and c.from_residual.result c.from_residual.ensures.1 in
    let short : is_too_short plan i ≡ true = sym c.is_too_short.ensures ∙ c.if-is_too_short.true in
    let piece : c.deref.result.now ≡ row_text (is_begun plan i) (i + 1) = c.deref.ensures.0 ∙ c.row_text.ensures ∙ ap (λ (b : Bool). row_text b (i + 1)) c.loop-index.invariant.begun in
    let leading = note_prefix plan (i + 1) (omega (arith, c.loop-index-test.true, c.len-index-end.ensures.count)) in
    let whole : note_text plan ≡ (note_below plan i ++ row_text (is_begun plan i) (i + 1)) ++ leading.0 = leading.1 ∙ ap (λ (l : List ℕ). l ++ leading.0) (noted_here plan i short) in
    let failed = puts_then g.W.Write.contents (held c.args.w.now c.args.block.now) (held c.loop-index.w c.loop-index.block) (held c.put.new.w c.put.new.self) (Err c.in_err-put.field-0.0) (note_below plan i) (row_text (is_begun plan i) (i + 1)) c.loop-index.invariant.text (rw piece at c.in_err-put.ensures) in
    rw p.1 (puts_failed g.W.Write.contents (held c.args.w.now c.args.block.now) (held c.put.new.w c.put.new.self) c.in_err-put.field-0.0 p.0 (note_below plan i ++ row_text (is_begun plan i) (i + 1)) leading.0 (note_text plan) whole failed)

pub loop-index-preserved : goal.loop-index-preserved
loop-index-preserved g c =
    let plan = parts_of c.args.plan.now in
    let i = c.loop-index.index in
    elim c.if-is_too_short.branch [
      | then-is_too_short+in_ok-put w ↦
          let short : is_too_short plan i ≡ true = sym c.is_too_short.ensures ∙ w.if-is_too_short.true in
          let piece : w.deref.result.now ≡ row_text (is_begun plan i) (i + 1) = w.deref.ensures.0 ∙ w.row_text.ensures ∙ ap (λ (b : Bool). row_text b (i + 1)) c.loop-index.invariant.begun in
          let both = puts_then g.W.Write.contents (held c.args.w.now c.args.block.now) (held c.loop-index.w c.loop-index.block) (held w.put.new.w w.put.new.self) (done {E = WriteFailed}) (note_below plan i) (row_text (is_begun plan i) (i + 1)) c.loop-index.invariant.text (rw piece at w.in_ok-put.ensures) in
          rw (w.block-is, w.w-is, w.is_begun-is) (record {
            begun = sym (begun_here plan i short);
            text = subst (λ (t : List ℕ). Gathers g.W.Write.contents (held c.args.w.now c.args.block.now) (held w.put.new.w w.put.new.self) (done {E = WriteFailed}) t) (sym (noted_here plan i short)) both;
          })
      | else-is_too_short w ↦
          let long = sym c.is_too_short.ensures ∙ w.if-is_too_short.false in
          rw (w.block-is, w.w-is, w.is_begun-is) (record {
            begun = c.loop-index.invariant.begun ∙ sym (begun_as_before plan i long);
            text = subst (λ (t : List ℕ). Gathers g.W.Write.contents (held c.args.w.now c.args.block.now) (held c.loop-index.w c.loop-index.block) (done {E = WriteFailed}) t) (sym (noted_as_before plan i long)) c.loop-index.invariant.text;
          })
    ]

pub returns : goal.returns
returns g c =
    let plan = parts_of c.args.plan.now in
    let all : c.loop-index.index ≡ length c.args.plan.now.bookings = omega (arith, c.loop-index-test.false, c.loop-index.auto.index-end, c.len-index-end.ensures.count) in
    let begun : is_begun plan (length plan.rows) ≡ true = ap (is_begun plan) (sym all) ∙ sym c.loop-index.invariant.begun ∙ c.if-not-is_begun.false in
    let tail : List ℕ = codes " may be too short to be carried on a live line\n" in
    let both = puts_then g.W.Write.contents (held c.args.w.now c.args.block.now) (held c.loop-index.w c.loop-index.block) (held c.put-2.new.w c.put-2.new.self) c.put-2.result (note_below plan c.loop-index.index) tail c.loop-index.invariant.text c.put-2.ensures in
    subst (λ (t : List ℕ). Gathers g.W.Write.contents (held c.args.w.now c.args.block.now) (held c.put-2.new.w c.put-2.new.self) c.put-2.result t)
    (ap (λ (n : ℕ). note_below plan n ++ tail) all ∙ ap (λ (b : Bool). note_below plan (length plan.rows) ++ note_end b) (sym begun)) both
