use Rattle.std.proofs.Common.{◌≡◌, List, ℕ, refl, ◌∙◌, ◌∷◌, []}
use Rattle.std.specs.Prelude.{codes}
use Rattle.std.proofs.lemmas.Result.{err_from_is_err_and}
use Rattle.bx_text.specs.Lines.{line_text, named}
use Rattle.bx_text.proofs.GatheringSteps.{puts_then, puts_failed}
use Rattle.bx_text.specs.Gathering.{held}
use Rattle.bx_planfile.proofs.writing.put_foot.Goals as goal

pub returns-in_err-put : goal.returns-in_err-put
returns-in_err-put g c =
    let p = err_from_is_err_and c.from_residual.result c.from_residual.ensures.1 in
    let first : List ℕ = line_text (named (codes "total") c.args.plan.now.total) in
    let text : c.deref.result.now ≡ first = c.deref.ensures.0 ∙ c.named_line.ensures in
    rw p.1 (puts_failed g.W.Write.contents (held c.args.w.now c.args.block.now) (held c.put.new.w c.put.new.block) c.in_err-put.field-0.0 p.0 first (line_text (codes "end" ∷ [])) _ refl (rw text at c.in_err-put.ensures))

pub returns : goal.returns
returns g c =
    let first : List ℕ = line_text (named (codes "total") c.args.plan.now.total) in
    let text : c.deref.result.now ≡ first = c.deref.ensures.0 ∙ c.named_line.ensures in
    puts_then g.W.Write.contents (held c.args.w.now c.args.block.now) (held c.put.new.w c.put.new.block) (held c.put-2.new.w c.put-2.new.block) c.put-2.result first (line_text (codes "end" ∷ [])) (rw text at c.in_ok-put.ensures) c.put-2.ensures
