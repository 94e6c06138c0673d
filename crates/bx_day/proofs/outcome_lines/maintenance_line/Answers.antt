use Rattle.std.proofs.Common.{◌≡◌, ◌≢◌, length, arith, ap, ◌∙◌, List, ℕ, [], ◌∷◌, ◌++◌}
use Rattle.std.specs.Prelude.{codes}
use Rattle.arrayvec.specs.ArrayVec.{ArrayVec}
use Rattle.bx_text.specs.Lines.{members_from, spaced}
use Rattle.bx_day.proofs.ToldLines.{maintained_none, maintained_some}
use Rattle.bx_day.proofs.outcome_lines.maintenance_line.Goals.{then-len-word_len, else-len-word_len}
use Rattle.bx_day.proofs.outcome_lines.maintenance_line.Goals as goal

pub returns : goal.returns
returns c =
    let line = c.add_members.new.line.items in
    let members : List ℕ = spaced (members_from 0 c.args.channels) in
    let word : c.append.new.line.items ≡ codes "maintenance" = c.append.ensures.items ∙ ap (λ (l : List ℕ). l ++ codes "maintenance") c.new-line.ensures in
    let told : line ≡ codes "maintenance" ++ members = c.add_members.ensures.items ∙ ap (λ (l : List ℕ). l ++ members) word in
    let empty : length c.new-line.result.items ≡ 0 = ap length c.new-line.ensures in
    let word_len : c.len-word_len.result ≡ 11 = omega (arith, c.len-word_len.ensures.value, c.append.ensures.len, empty) in
    elim c.if-len-word_len.branch [
      | then-len-word_len w ↦
          let short : length line ≡ 11 = omega (arith, c.len.ensures.value, word_len, w.if-len-word_len.true) in
          maintained_none c.args.channels line c.push.new.self.items told short
          (c.push.ensures.items ∙ ap (λ (l : ArrayVec ℕ). l.items ++ 10 ∷ []) w.line-is ∙ ap (λ (l : List ℕ). l ++ 10 ∷ []) w.append-then-len-word_len.ensures.items)
      | else-len-word_len w ↦
          let long : length line ≢ 11 = omega (arith, c.len.ensures.value, word_len, w.if-len-word_len.false) in
          maintained_some c.args.channels line c.push.new.self.items told long (c.push.ensures.items ∙ ap (λ (l : ArrayVec ℕ). l.items ++ 10 ∷ []) w.line-is)
    ]
