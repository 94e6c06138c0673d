use Rattle.std.proofs.Common.{Err, ◌≡◌, List, ℕ, refl, sym, ap, subst, ◌∙◌, ◌∷◌, [], ◌++◌, length, map, append_assoc}
use Rattle.std.specs.Prelude.{codes, decimal}
use Rattle.std.proofs.lemmas.List.{append-nil}
use Rattle.std.proofs.lemmas.Result.{err_from_is_err_and}
use Rattle.bx_text.specs.Lines.{line_text, members_from, named}
use Rattle.bx_planfile.proofs.WritingSteps.{Written}
use Rattle.bx_text.proofs.GatheringSteps.{puts_then, puts_failed}
use Rattle.bx_text.specs.Gathering.{Gathers, held}
use Rattle.bx_planfile.proofs.writing.put_head.Goals as goal

pub returns-in_err-put-clause-text : goal.returns-in_err-put-clause-text
returns-in_err-put-clause-text g c =
    let p = err_from_is_err_and c.from_residual.result c.from_residual.ensures.1 in
    let first : List ℕ = codes "bx-plan 3\n" in
    let second : List ℕ = line_text (codes "channels" ∷ map decimal (members_from 0 c.args.plan.now.channels)) in
    let third : List ℕ = line_text (named (codes "bookings") (length c.args.plan.now.bookings)) in
    rw p.1 (puts_failed g.W.Write.contents (held c.args.w.now c.args.block.now) (held c.put.new.w c.put.new.block) c.in_err-put.field-0.0 p.0 first (second ++ (third ++ [])) _ refl c.in_err-put.ensures)

pub returns-in_err-put-2-clause-text : goal.returns-in_err-put-2-clause-text
returns-in_err-put-2-clause-text g c =
    let p = err_from_is_err_and c.from_residual-in_err-put-2.result c.from_residual-in_err-put-2.ensures.1 in
    let first : List ℕ = codes "bx-plan 3\n" in
    let second : List ℕ = line_text (codes "channels" ∷ map decimal (members_from 0 c.args.plan.now.channels)) in
    let third : List ℕ = line_text (named (codes "bookings") (length c.args.plan.now.bookings)) in
    let text : c.deref.result.now ≡ second = c.deref.ensures.0 ∙ c.channels_line-channels.ensures.text in
    let failed : Gathers g.W.Write.contents (held c.args.w.now c.args.block.now) (held c.put-2.new.w c.put-2.new.block) (let q : Written = Err c.in_err-put-2.field-0.0 in q) (first ++ second) = puts_then g.W.Write.contents (held c.args.w.now c.args.block.now) (held c.put.new.w c.put.new.block) (held c.put-2.new.w c.put-2.new.block) _ first second c.in_ok-put.ensures (rw text at c.in_err-put-2.ensures) in
    rw p.1 (puts_failed g.W.Write.contents (held c.args.w.now c.args.block.now) (held c.put-2.new.w c.put-2.new.block) c.in_err-put-2.field-0.0 p.0 (first ++ second) (third ++ []) _ (sym (append_assoc first second (third ++ []))) failed)

pub returns-clause-text : goal.returns-clause-text
returns-clause-text g c =
    let first : List ℕ = codes "bx-plan 3\n" in
    let second : List ℕ = line_text (codes "channels" ∷ map decimal (members_from 0 c.args.plan.now.channels)) in
    let third : List ℕ = line_text (named (codes "bookings") (length c.args.plan.now.bookings)) in
    let text : c.deref.result.now ≡ second = c.deref.ensures.0 ∙ c.channels_line-channels.ensures.text in
    let count : c.from.result ≡ length c.args.plan.now.bookings = c.from.ensures ∙ c.len-count.ensures.count in
    let text_3 : c.deref-2.result.now ≡ third = c.deref-2.ensures.0 ∙ c.named_line.ensures ∙ ap (λ (n : ℕ). line_text (named (codes "bookings") n)) count in
    let end : third ++ [] ≡ third = append-nil third in
    let following = puts_then g.W.Write.contents (held c.put.new.w c.put.new.block) (held c.put-2.new.w c.put-2.new.block) (held c.put-3.new.w c.put-3.new.block) c.put-3.result second third (rw text at c.in_ok-put-2.ensures) (rw text_3 at c.put-3.ensures) in
    let whole = puts_then g.W.Write.contents (held c.args.w.now c.args.block.now) (held c.put.new.w c.put.new.block) (held c.put-3.new.w c.put-3.new.block) c.put-3.result first (second ++ third) c.in_ok-put.ensures following in
    subst (λ (t : List ℕ). Gathers g.W.Write.contents (held c.args.w.now c.args.block.now) (held c.put-3.new.w c.put-3.new.block) c.put-3.result (first ++ (second ++ t))) (sym end) whole
