use Rattle.std.proofs.Common.{◌-◌, length, drop, length-drop, sym, ap, ◌∙◌, if◌then◌else◌, arith}
use Rattle.std.proofs.lemmas.List.{take_all}
use Rattle.bx_sales.proofs.tag.behind_tag.Goals as goal

pub returns-then-is_tagged : goal.returns-then-is_tagged
returns-then-is_tagged c =
    let line = c.args.line.now in
    let n = length-drop 72 line in
    take_all (length line - 72) (drop 72 line) (omega (arith, n)) ∙ sym (ap (λ b. if b then drop 72 line else line) (sym c.is_tagged.ensures ∙ c.if-is_tagged.true))
